-- The text of an item has no line feed.
use Rattle.std.proofs.Common.{◌≡◌, ℕ, suc, ◌-◌, ◌/◌, ◌%◌, ◌^◌, ◌<◌, ◌≤◌, Bool, true, false, ℤ, pos}
use Rattle.std.proofs.Common.{negsuc, List, [], ◌∷◌, ◌++◌, length, Option, Some, None, refl, sym, subst, arith, codes}
use Rattle.std.proofs.Common.{decimal, All}
use Rattle.std.specs.Int.Signed.{mag}
use Rattle.std.specs.List.{flat_map}
use Rattle.std.specs.Fmt.{signed_decimal, digit_glyph}
use Rattle.std.proofs.lemmas.Bool.Decides.{nat_tests}
use Rattle.std.proofs.lemmas.List.Elements.{All-head, All-tail}
use Rattle.sp_journal.proofs.EntryText.{in_line, from_test}
use Rattle.sp_journal.proofs.SplitLaws.{AllInRange, within_append, within_wider}
use Rattle.sp_journal.proofs.TextLaws.{digits_within}
use Rattle.sp_code.specs.declared.code.ChildTable.{ChildTable}
use Rattle.sp_code.specs.declared.code.Formal.{Formal}
use Rattle.sp_code.specs.declared.code.Formal.TheVariants as formal
use Rattle.sp_code.specs.declared.code.Layout.{Layout}
use Rattle.sp_code.specs.declared.code.Parts.{Parts}
use Rattle.sp_code.specs.declared.instr.Instr.{Instr}
use Rattle.sp_code.specs.declared.instr.Instr.TheVariants as i
use Rattle.sp_code.specs.Listing.{word, operands, number_text, operand_text, instr_text}
use Rattle.sp_codefile.specs.declared.item.Item.{Item}
use Rattle.sp_codefile.specs.declared.item.Item.TheVariants as item
use Rattle.sp_codefile.specs.CodeText.{parent_text, answer_text, formal_text, layout_text, byte_text, text_text}
use Rattle.sp_codefile.specs.CodeText.{index_text, child_text, IsNumber, MayBeNumber, FormalFits, LayoutFits, ChildFits}
use Rattle.sp_codefile.specs.CodeText.{IsByte, InstrFits, IsCode, IsOneLine}
use Rattle.sp_codefile.specs.Items.{item_text, last_children, CanFollow}
use Rattle.sp_codefile.proofs.TextLaws.{child_body}
use Rattle.sp_codefile.proofs.InstrLaws.{AreSmall, operands_small}

-- bytes that are printed
abbrev Plain : List ℕ → Type 0
Plain xs = AllInRange 32 122 xs

joined : (xs ys : List ℕ) → Plain xs → Plain ys → Plain (xs ++ ys)
joined xs ys a b = within_append 32 122 xs ys a b

joined_11 : (a b c d e s t v w x y : List ℕ) → Plain a → Plain b → Plain c → Plain d → Plain e → Plain s → Plain t
    → Plain v → Plain w → Plain x → Plain y → Plain (a ++ b ++ c ++ d ++ e ++ s ++ t ++ v ++ w ++ x ++ y)
joined_11 a b c d e s t v w x y ha hb hc hd he hs ht hv hw hx hy =
    joined (a ++ b ++ c ++ d ++ e ++ s ++ t ++ v ++ w
    ++ x) y (joined (a ++ b ++ c ++ d ++ e ++ s ++ t ++ v
    ++ w) x (joined (a ++ b ++ c ++ d ++ e ++ s ++ t
    ++ v) w (joined (a ++ b ++ c ++ d ++ e ++ s
    ++ t) v (joined (a ++ b ++ c ++ d ++ e
    ++ s) t (joined (a ++ b ++ c ++ d ++ e) s
    (joined (a ++ b ++ c ++ d) e (joined (a ++ b
    ++ c) d (joined (a ++ b) c (joined a b ha hb) hc) hd) he) hs) ht) hv) hw) hx) hy

joined_child : (a b c d e s t v w x y : List ℕ) → Plain a → Plain b → Plain c → Plain d → Plain e → Plain s → Plain t
    → Plain v → Plain w → Plain x → Plain y → Plain ((a ++ b ++ c ++ d ++ e ++ s) ++ (t ++ v ++ w ++ x) ++ y)
joined_child a b c d e s t v w x y ha hb hc hd he hs ht hv hw hx hy =
    joined ((a ++ b ++ c ++ d ++ e ++ s)
    ++ (t ++ v ++ w ++ x)) y (joined (a ++ b ++ c ++ d ++ e ++ s) (t ++ v ++ w
    ++ x) (joined (a ++ b ++ c ++ d ++ e) s
    (joined (a ++ b ++ c ++ d) e (joined (a ++ b
    ++ c) d (joined (a ++ b) c (joined a b ha hb) hc) hd) he) hs) (joined (t ++ v
    ++ w) x (joined (t ++ v) w (joined t v ht hv) hw) hx)) hy

digits : (n : ℕ) → n < 2 ^ 64 → Plain (decimal n)
digits n l = within_wider 48 57 32 122 (decimal n) (omega arith) (omega arith) (digits_within n l)

signed : (z : ℤ) → mag z < 2 ^ 63 → Plain (signed_decimal z)
signed (pos n) l = digits n (omega arith)
signed (negsuc n) l = (omega arith, omega arith, digits (suc n) (omega arith))

number : (n : ℕ) → IsNumber n → Plain (number_text n)
number n l = (omega arith, omega arith, digits n (omega arith))

each : {X : Type 0} (text : X → List ℕ) (Fits : X → Type 0) → ((x : X) → Fits x → Plain (text x)) → (xs : List X)
    → All Fits xs → Plain (flat_map text xs)
each text Fits one [] a = tt
each text Fits one (x ∷ xs) a = joined (text x) (flat_map text xs) (one x (All-head Fits x xs a))
    (each text Fits one xs (All-tail Fits x xs a))

numbers : (ns : List ℕ) → All IsNumber ns → Plain (flat_map number_text ns)
numbers ns a = each number_text IsNumber number ns a

parent : (p : Option ℕ) → MayBeNumber p → Plain (parent_text p)
parent None f = from_test (codes " -") refl
parent (Some b) f = number b f

answer : (b : Bool) → Plain (answer_text b)
answer true = from_test (codes " answer") refl
answer false = from_test (codes " none") refl

one_formal : (f : Formal) → FormalFits f → Plain (formal_text f)
one_formal (formal.Value n) l = joined (codes " value") (number_text n) (from_test (codes " value") refl) (number n l)
one_formal (formal.Reference n) l = joined (codes " reference") (number_text n) (from_test (codes " reference") refl)
    (number n l)

layout : (l : Layout) → LayoutFits l → Plain (layout_text l)
layout l f =
    joined_11 (codes "layout") (number_text l.block) (number_text l.entry) (parent_text l.parent) (answer_text l.answer)
    (codes " sizes") (flat_map number_text l.sizes) (codes " variables") (flat_map number_text l.variables)
    (codes " formals") (flat_map formal_text l.formals)
    (from_test (codes "layout") refl) (number l.block f.block) (number l.entry f.entry) (parent l.parent f.parent)
    (answer l.answer) (from_test (codes " sizes") refl) (numbers l.sizes f.sizes) (from_test (codes " variables") refl)
    (numbers l.variables f.variables)
    (from_test (codes " formals") refl) (each formal_text FormalFits one_formal l.formals f.formals)

glyph : (d : ℕ) → d < 16 → (32 ≤ digit_glyph false d) × (digit_glyph false d ≤ 122)
glyph d l = (grind (arith, nat_tests), grind (arith, nat_tests))

one_byte : (b : ℕ) → IsByte b → Plain (byte_text b)
one_byte b l =
    let high = glyph (b / 16) (omega arith) in
    let low = glyph (b % 16) (omega arith) in
    (high.0, high.1, (low.0, low.1, tt))

text : (t : List ℕ) → All IsByte t → Plain (text_text t)
text t a = joined (codes "text ") (flat_map byte_text t) (from_test (codes "text ") refl)
    (each byte_text IsByte one_byte t a)

index : (i : Option ℕ) → MayBeNumber i → Plain (index_text i)
index None f = tt
index (Some v) f = joined (codes " index") (number_text v) (from_test (codes " index") refl) (number v f)

child : (t k : ℕ) (c : ChildTable) → t < 2 ^ 64 → k < 2 ^ 64 → ChildFits c → Plain (child_text t k c)
child t k c l m f = subst (λ (z : List ℕ). Plain (z ++ index_text c.index)) (sym (child_body t k c))
    (joined_child (codes "table ") (decimal t) (codes " child ") (decimal k) (codes " entry ") (decimal c.entry)
    (codes " moves") (flat_map number_text c.moved) (codes " shares") (flat_map number_text c.shared)
    (index_text c.index)
    (from_test (codes "table ") refl) (digits t l) (from_test (codes " child ") refl) (digits k m)
    (from_test (codes " entry ") refl) (digits c.entry (let a = f.entry in omega arith))
    (from_test (codes " moves") refl) (numbers c.moved f.moved)
    (from_test (codes " shares") refl) (numbers c.shared f.shared) (index c.index f.index))

in_words : (x : Instr) → in_line (word x) ≡ true
in_words (i.Const x) = refl
in_words _ = refl

all_operands : (zs : List ℤ) → AreSmall zs → Plain (flat_map operand_text zs)
all_operands [] s = tt
all_operands (z ∷ zs) s = (
  omega arith,
  omega arith,
  joined (signed_decimal z) (flat_map operand_text zs) (signed z s.0)
      (all_operands zs s.1),
)

instr : (x : Instr) → InstrFits x → Plain (instr_text x)
instr x f = joined (word x) (flat_map operand_text (operands x)) (from_test (word x) (in_words x))
    (all_operands (operands x) (operands_small x f))

one_line : (xs : List ℕ) → Plain xs → IsOneLine xs
one_line [] w = tt
one_line (x ∷ xs) w = (λ e. let a = w.0 in omega arith, one_line xs w.2)

pub item_one_line : (p : Parts) (x : Item) → IsCode p → CanFollow p x → IsOneLine (item_text p x)
item_one_line p (item.Layout l) c h = one_line (layout_text l) (layout l h.1)
item_one_line p (item.Text t) c h = one_line (text_text t) (text t h.1)
item_one_line p (item.Instr x) c h = one_line (item_text p (item.Instr x))
    (joined (decimal (length p.instrs) ++ codes " ") (instr_text x)
    (joined (decimal (length p.instrs)) (codes " ") (digits (length p.instrs)
    (let (_, few) = h.0 in omega (arith, few)))
    (from_test (codes " ") refl)) (instr x h.1))
item_one_line p (item.Table c) k h = one_line (child_text (length p.forks) 0 c)
    (child (length p.forks) 0 c (let a = h.0 in omega arith) (omega arith) h.1)
item_one_line p (item.Child c) k h = one_line (child_text (length p.forks - 1) (last_children p.forks) c)
    (child (length p.forks - 1) (last_children p.forks) c (let a = k.sizes.forks in omega arith)
    (let (_, few) = h.0 in omega (arith, few)) h.1)
