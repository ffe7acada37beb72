-- None of this belongs to what the program promises: it is for contracts between crates.
-- Items that are read and values that are written, by the machine's own names. The contracts of `io` cite it.
use Rattle.std.specs.Prelude.{◌≡◌, ℕ, ◌+◌, ℤ, List, [], ◌∷◌, length, Bool, true, false, nat_lt}
use Rattle.std.specs.Fmt.{signed_decimal}
use Rattle.sp_tree.specs.Items.{ReadResult, number_in, char_in, truth_text, byte}
use Rattle.sp_cell.specs.Map.{Plain}
use Rattle.sp_code.specs.Memory.{bytes_in}
use Rattle.sp_code.specs.PlainStore.{plain}
use Rattle.sp_machine.specs.declared.io.Item.{Item}
use Rattle.sp_machine.specs.declared.io.Item.TheVariants as item
use Rattle.sp_machine.specs.declared.io.Shown.{Shown}
use Rattle.sp_machine.specs.declared.io.Shown.TheVariants as shown

-- an item read
abbrev pub item_in : Item → List ℕ → ReadResult
item_in item.Number = number_in
item_in item.Char = char_in

-- a value written
abbrev pub text_of : Shown → ℤ → List ℕ
text_of shown.Number = signed_decimal
text_of shown.Char = λ n. byte n ∷ []
text_of shown.Truth = truth_text

-- whether a width cuts it
abbrev pub is_cut : Shown → Bool
is_cut shown.Number = false
is_cut shown.Char = false
is_cut shown.Truth = true

-- bytes were written, or they would pass the limit
abbrev pub Emits : Bool → ℕ → List ℕ → Plain → Plain → Type 0
Emits true limit t s u = (nat_lt limit (length (bytes_in (plain.output s)) + length t) ≡ false)
    × (u ≡ plain.appended s t)
Emits false limit t s u = (nat_lt limit (length (bytes_in (plain.output s)) + length t) ≡ true) × (u ≡ s)
