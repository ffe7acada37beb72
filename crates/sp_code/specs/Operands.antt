-- None of this belongs to what the program promises: it is for contracts between crates.
-- The numbers after an instruction's word, as a list: the part of the listing that all instructions share, for the
-- contracts of its words.
use Rattle.std.specs.Prelude.{ℤ, List, [], ◌∷◌}
use Rattle.sp_code.specs.declared.words.Operands.{Operands}
use Rattle.sp_code.specs.declared.words.Operands.TheVariants as o

abbrev pub operand_list : Operands → List ℤ
operand_list o.None = []
operand_list (o.One a) = a ∷ []
operand_list (o.Two a b) = a ∷ b ∷ []
operand_list (o.Three a b c) = a ∷ b ∷ c ∷ []
