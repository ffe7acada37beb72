-- None of this belongs to what the program promises: it is for contracts between crates.
-- Items read and written, which the meaning and the code share: those of `sp_tree`, passed on.
pub use Rattle.sp_tree.specs.Items.{is_blank, is_digit, blanks, digits, number_from, is_minus, sign_length}
pub use Rattle.sp_tree.specs.Items.{signed_integer}
pub use Rattle.sp_tree.specs.Items.{ReadResult, ReadItem, ReadFault, digits_after, number_after, number_in, char_in}
pub use Rattle.sp_tree.specs.Items.{line_length}
pub use Rattle.sp_tree.specs.Items.{at_line_end, right_justified, truth_text, byte}
