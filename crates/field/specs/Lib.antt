-- One field of a book: document 01's sections 'The book' and 'Refusal numbers', but for the contents of curves and
-- claims and for the loop over the fields. Fields has the bytes, read and written, Steps a field's answer; Back:
-- reading and writing undo each other.
pub mod Fields
pub mod Steps
pub mod Back
