-- None of this belongs to what the program promises: it is for contracts between crates.
-- The lines of layouts and children behind their first word, and what digits write, for the parts of the reader. No
-- public contract cites these.
use Rattle.std.specs.Prelude.{ℕ, ◌+◌, ◌*◌, ◌%◌, ◌==◌, nat_lt, get_or, cond, Bool, true, false, List, [], ◌∷◌, ◌++◌}
use Rattle.std.specs.Prelude.{Option, Some, None, codes, decimal}
use Rattle.std.specs.List.{flat_map}
use Rattle.sp_code.specs.declared.code.ChildTable.{ChildTable}
use Rattle.sp_code.specs.declared.code.Layout.{Layout}
use Rattle.sp_code.specs.Listing.{number_text}
use Rattle.sp_codefile.specs.declared.line_reader.LineKind.{LineKind}
use Rattle.sp_codefile.specs.declared.line_reader.LineKind.TheVariants as kind
use Rattle.sp_codefile.specs.CodeText.{parent_text, answer_text, formal_text, index_text}

-- the block around a block as a word
abbrev pub parent_word : Option ℕ → List ℕ
parent_word None = codes "-"
parent_word (Some b) = decimal b

-- whether a block has a result, as a word
abbrev pub answer_word : Bool → List ℕ
answer_word true = codes "answer"
answer_word false = codes "none"

-- a layout behind its first word
abbrev pub layout_words : Layout → List ℕ
layout_words l =
    number_text l.block ++ (number_text l.entry
    ++ (parent_text l.parent ++ (answer_text l.answer ++ (codes " sizes" ++ (flat_map number_text l.sizes
    ++ (codes " variables"
    ++ (flat_map number_text l.variables ++ (codes " formals" ++ flat_map formal_text l.formals))))))))

-- child k of fork table t behind its first word
abbrev pub child_words : ℕ → ℕ → ChildTable → List ℕ
child_words t k c =
    number_text t ++ (codes " child"
    ++ (number_text k ++ (codes " entry" ++ (number_text c.entry ++ (codes " moves" ++ (flat_map number_text c.moved
    ++ (codes " shares" ++ (flat_map number_text c.shared ++ index_text c.index))))))))

-- what a hexadecimal digit stands for
abbrev pub digit_value : ℕ → ℕ
digit_value d = cond (nat_lt d 58) (d % 16) ((d % 16 + 9) % 16)

-- what pairs of digits stand for
abbrev pub bytes_of : List ℕ → List ℕ
bytes_of [] = []
bytes_of (x ∷ []) = []
bytes_of (x ∷ (y ∷ ys)) = (digit_value x * 16 + digit_value y) ∷ bytes_of ys

-- what a line says, by its first bytes: `l`, `ta`, `t`, or another
abbrev pub kind_of : List ℕ → LineKind
kind_of line = cond (get_or line 0 0 == 108) kind.Layout
    (cond (get_or line 0 0 == 116) (cond (get_or line 1 0 == 97) kind.Child kind.Text) kind.Instr)
