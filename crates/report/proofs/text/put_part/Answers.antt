use Rattle.numbers.specs.Written.{wrote_on}
use Rattle.report.proofs.text.put_part.Goals as goal

pub returns : goal.returns
returns c = wrote_on c.put_words-next.ensures c.put_number.ensures
