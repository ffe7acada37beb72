-- No two items have one text, and no two codes.
use Rattle.std.proofs.Common.{◌≡◌, ℕ, zero, suc, ◌-◌, ◌^◌, ◌<◌, Bool, true, false, ℤ, pos, negsuc, List, [], ◌∷◌, ◌++◌}
use Rattle.std.proofs.Common.{length, drop, Option, Some, None, refl, sym, ap, ◌∙◌, subst, arith, append_assoc, codes}
use Rattle.std.proofs.Common.{decimal, All}
use Rattle.std.specs.Int.Signed.{mag}
use Rattle.std.specs.List.{flat_map}
use Rattle.std.specs.Fmt.{signed_decimal}
use Rattle.std.proofs.lemmas.Fmt.{decimal_injective}
use Rattle.std.proofs.lemmas.List.Elements.{All-head, All-tail}
use Rattle.std.proofs.lemmas.Option.{same_Some}
use Rattle.sp_journal.proofs.SplitLaws.{AllInRange}
use Rattle.sp_journal.proofs.TextLaws.{digits_within}
use Rattle.sp_code.specs.declared.code.ChildTable.{ChildTable}
use Rattle.sp_code.specs.declared.code.Formal.{Formal}
use Rattle.sp_code.specs.declared.code.Formal.TheVariants as formal
use Rattle.sp_code.specs.declared.code.Layout.{Layout}
use Rattle.sp_code.specs.declared.code.Parts.{Parts}
use Rattle.sp_code.specs.declared.instr.Instr.{Instr}
use Rattle.sp_code.specs.Listing.{operands, operand_text, number_text, instr_text}
use Rattle.sp_codefile.specs.declared.item.Item.{Item}
use Rattle.sp_codefile.specs.declared.item.Item.TheVariants as item
use Rattle.sp_codefile.specs.declared.opcodes.Operand.{Operand}
use Rattle.sp_codefile.specs.declared.line_reader.LineKind.TheVariants as kind
use Rattle.sp_codefile.specs.CodeText.{formal_text, index_text, IsNumber, MayBeNumber, FormalFits, LayoutFits}
use Rattle.sp_codefile.specs.CodeText.{ChildFits, InstrFits, IsCode, IsTextOf}
use Rattle.sp_codefile.specs.Cuts.{blank_cut, word_of, class_cut}
use Rattle.sp_codefile.specs.Items.{item_text, last_children, CanFollow, after_item}
use Rattle.sp_codefile.specs.Lines.{parent_word, answer_word, layout_words, child_words, bytes_of, kind_of}
use Rattle.sp_codefile.specs.Opcodes.{instr_named, with_operands}
use Rattle.sp_codefile.proofs.WordLaws.{number_cut, no_sign}
use Rattle.sp_codefile.proofs.InstrLaws.{IsRead, AreReadAs, AreSmall, plain, named_plain, filled_plain, operands_small}
use Rattle.sp_codefile.proofs.InstrLaws.{instr_cut, operand_cut}
use Rattle.sp_codefile.proofs.ItemLaws.{code_step}
use Rattle.sp_codefile.proofs.LayoutLaws.{number_before, blank_formals, l1, l2, l3, l4, l5, l6, l7, l8, c1, c2, c3, c4}
use Rattle.sp_codefile.proofs.LayoutLaws.{c5, c6, c7, c8, layout_behind, layout_block, layout_entry, layout_parent}
use Rattle.sp_codefile.proofs.LayoutLaws.{layout_answer, behind_sizes, layout_sizes, behind_variables, layout_variables}
use Rattle.sp_codefile.proofs.LayoutLaws.{behind_formals, child_behind, child_table, behind_child, child_number}
use Rattle.sp_codefile.proofs.LayoutLaws.{behind_entry, child_entry_cut, behind_moves, child_moved, behind_shares}
use Rattle.sp_codefile.proofs.LayoutLaws.{child_shared, no_formal}
use Rattle.sp_codefile.proofs.LeadLaws.{ItemsLead, no_parts, from_nothing}
use Rattle.sp_codefile.proofs.ReadLaws.{GoesOn, none_goes_on, goes_on_next, none_left, no_parts_code}
use Rattle.sp_codefile.proofs.KindLaws.{kind_of_item, kind_is, bytes_back, instr_behind}

-- one text is cut in one way
both : (f : List ℕ → List ℕ × List ℕ) (a b w r v s : List ℕ) → a ≡ b → f a ≡ (w, r) → f b ≡ (v, s) → (w ≡ v) × (r ≡ s)
both f a b w r v s e g h =
    let k : (w, r) ≡ (v, s) = sym g ∙ ap f e ∙ h in
    (ap (λ (p : List ℕ × List ℕ). p.0) k, ap (λ (p : List ℕ × List ℕ). p.1) k)

same_number : (m n : ℕ) → IsNumber m → IsNumber n → decimal m ≡ decimal n → m ≡ n
same_number m n a b e = decimal_injective m n (omega arith) (omega arith) e

some_number : (n : ℕ) (more : List ℕ) → number_text n ++ more ≡ [] → ⊥
some_number n more e = cc

numbers_same : (ns ms : List ℕ) → All IsNumber ns → All IsNumber ms → flat_map number_text ns ≡ flat_map number_text ms
    → ns ≡ ms
numbers_same [] [] a b e = refl
numbers_same [] (m ∷ ms) a b e = absurd (some_number m (flat_map number_text ms) (sym e))
numbers_same (n ∷ ns) [] a b e = absurd (some_number n (flat_map number_text ns) e)
numbers_same (n ∷ ns) (m ∷ ms) a b e =
    let p = All-head IsNumber n ns a in
    let q = All-head IsNumber m ms b in
    let k = both word_of (flat_map number_text (n ∷ ns)) (flat_map number_text (m ∷ ms)) (decimal n)
    (flat_map number_text ns) (decimal m) (flat_map number_text ms) e (number_cut n ns p) (number_cut m ms q) in
    let one = same_number n m p q k.0 in
    let rest = numbers_same ns ms (All-tail IsNumber n ns a) (All-tail IsNumber m ms b) k.1 in
    λ j. one j ∷ rest j

abbrev first_byte : List ℕ → ℕ
first_byte [] = 0
first_byte (x ∷ xs) = x

abbrev formal_word : Formal → List ℕ
formal_word (formal.Value n) = codes "value"
formal_word (formal.Reference n) = codes "reference"

abbrev cells_of : Formal → ℕ
cells_of (formal.Value n) = n
cells_of (formal.Reference n) = n

cells_fit : (f : Formal) → FormalFits f → IsNumber (cells_of f)
cells_fit (formal.Value n) l = l
cells_fit (formal.Reference n) l = l

formal_cut : (f : Formal) (fs : List Formal)
    → word_of (flat_map formal_text (f ∷ fs)) ≡ (formal_word f, number_text (cells_of f) ++ flat_map formal_text fs)
formal_cut (formal.Value n) fs = ap word_of (append_assoc (codes " value") (number_text n) (flat_map formal_text fs))
formal_cut (formal.Reference n) fs = ap word_of
    (append_assoc (codes " reference") (number_text n) (flat_map formal_text fs))

formal_same : (f g : Formal) → formal_word f ≡ formal_word g → cells_of f ≡ cells_of g → f ≡ g
formal_same (formal.Value n) (formal.Value m) e h = ap formal.Value h
formal_same (formal.Value n) (formal.Reference m) e h = absurd (let a : 118 ≡ 114 = ap first_byte e in omega arith)
formal_same (formal.Reference n) (formal.Value m) e h = absurd (let a : 114 ≡ 118 = ap first_byte e in omega arith)
formal_same (formal.Reference n) (formal.Reference m) e h = ap formal.Reference h

formals_same : (fs gs : List Formal) → All FormalFits fs → All FormalFits gs
    → flat_map formal_text fs ≡ flat_map formal_text gs → fs ≡ gs
formals_same [] [] a b e = refl
formals_same [] (g ∷ gs) a b e = absurd (no_formal g (flat_map formal_text gs) (sym e))
formals_same (f ∷ fs) [] a b e = absurd (no_formal f (flat_map formal_text fs) e)
formals_same (f ∷ fs) (g ∷ gs) a b e =
    let p = cells_fit f (All-head FormalFits f fs a) in
    let q = cells_fit g (All-head FormalFits g gs b) in
    let k = both word_of (flat_map formal_text (f ∷ fs)) (flat_map formal_text (g ∷ gs)) _ _ _ _ e (formal_cut f fs)
    (formal_cut g gs) in
    let h = both word_of (number_text (cells_of f) ++ flat_map formal_text fs) (number_text (cells_of g)
    ++ flat_map formal_text gs) (decimal (cells_of f)) (flat_map formal_text fs) (decimal (cells_of g))
    (flat_map formal_text gs) k.1
    (number_before (cells_of f) (flat_map formal_text fs) (omega arith) (blank_formals fs))
    (number_before (cells_of g) (flat_map formal_text gs) (omega arith) (blank_formals gs)) in
    let one = formal_same f g k.0 (same_number (cells_of f) (cells_of g) p q h.0) in
    let rest = formals_same fs gs (All-tail FormalFits f fs a) (All-tail FormalFits g gs b) h.1 in
    λ j. one j ∷ rest j

parent_same : (p q : Option ℕ) → MayBeNumber p → MayBeNumber q → parent_word p ≡ parent_word q → p ≡ q
parent_same None None a b e = refl
parent_same None (Some n) a b e = absurd (no_sign n b e)
parent_same (Some m) None a b e = absurd (no_sign m a (sym e))
parent_same (Some m) (Some n) a b e = ap (λ (x : ℕ). Some x) (same_number m n a b e)

answer_same : (b c : Bool) → answer_word b ≡ answer_word c → b ≡ c
answer_same true true e = refl
answer_same true false e = absurd (let a : 97 ≡ 110 = ap first_byte e in omega arith)
answer_same false true e = absurd (let a : 110 ≡ 97 = ap first_byte e in omega arith)
answer_same false false e = refl

layout_same : (l m : Layout) → LayoutFits l → LayoutFits m → layout_words l ≡ layout_words m → l ≡ m
layout_same l m f g e =
    let k0 = both word_of (layout_words l) (layout_words m) _ _ _ _ e (layout_block l f) (layout_block m g) in
    let k1 = both word_of (l1 l f) (l1 m g) _ _ _ _ k0.1 (layout_entry l f) (layout_entry m g) in
    let k2 = both word_of (l2 l f) (l2 m g) _ _ _ _ k1.1 (layout_parent l f) (layout_parent m g) in
    let k3 = both word_of (l3 l f) (l3 m g) _ _ _ _ k2.1 (layout_answer l f) (layout_answer m g) in
    let k4 = both word_of (l4 l f) (l4 m g) _ _ _ _ k3.1 (behind_sizes l f) (behind_sizes m g) in
    let k5 = both (class_cut 97 122) (l5 l f) (l5 m g) _ _ _ _ k4.1 (layout_sizes l f) (layout_sizes m g) in
    let k6 = both word_of (l6 l f) (l6 m g) _ _ _ _ k5.1 (behind_variables l f) (behind_variables m g) in
    let k7 = both (class_cut 97 122) (l7 l f) (l7 m g) _ _ _ _ k6.1 (layout_variables l f) (layout_variables m g) in
    let k8 = both word_of (l8 l f) (l8 m g) _ _ _ _ k7.1 (behind_formals l f) (behind_formals m g) in
    let block = same_number l.block m.block f.block g.block k0.0 in
    let entry = same_number l.entry m.entry f.entry g.entry k1.0 in
    let parent = parent_same l.parent m.parent f.parent g.parent k2.0 in
    let answer = answer_same l.answer m.answer k3.0 in
    let sizes = numbers_same l.sizes m.sizes f.sizes g.sizes k5.0 in
    let variables = numbers_same l.variables m.variables f.variables g.variables k7.0 in
    let formals = formals_same l.formals m.formals f.formals g.formals k8.1 in
    λ j. record {
      block = block j;
      entry = entry j;
      parent = parent j;
      answer = answer j;
      sizes = sizes j;
      variables = variables j;
      formals = formals j;
    }

index_same : (p q : Option ℕ) → MayBeNumber p → MayBeNumber q → index_text p ≡ index_text q → p ≡ q
index_same None None a b e = refl
index_same None (Some n) a b e = absurd (cc e)
index_same (Some m) None a b e = absurd (cc e)
index_same (Some m) (Some n) a b e = ap (λ (x : ℕ). Some x) (numbers_same_one (ap (drop 6) e))
  where
    numbers_same_one : number_text m ≡ number_text n → m ≡ n
    numbers_same_one h = same_number m n a b (ap (drop 1) h)

-- a child by its line, and the table that the line names
child_same : (t u k : ℕ) (c d : ChildTable) → t < 2 ^ 64 → u < 2 ^ 64 → k < 2 ^ 64 → ChildFits c → ChildFits d
    → child_words t k c ≡ child_words u k d → c ≡ d
child_same t u k c d st su few f g e =
    let k0 = both word_of (child_words t k c) (child_words u k d) _ _ _ _ e (child_table t k c st few f)
    (child_table u k d su few g) in
    let k1 = both word_of (c1 t k c st few f) (c1 u k d su few g) _ _ _ _ k0.1 (behind_child t k c st few f)
    (behind_child u k d su few g) in
    let k2 = both word_of (c2 t k c st few f) (c2 u k d su few g) _ _ _ _ k1.1 (child_number t k c st few f)
    (child_number u k d su few g) in
    let k3 = both word_of (c3 t k c st few f) (c3 u k d su few g) _ _ _ _ k2.1 (behind_entry t k c st few f)
    (behind_entry u k d su few g) in
    let k4 = both word_of (c4 t k c st few f) (c4 u k d su few g) _ _ _ _ k3.1 (child_entry_cut t k c st few f)
    (child_entry_cut u k d su few g) in
    let k5 = both word_of (c5 t k c st few f) (c5 u k d su few g) _ _ _ _ k4.1 (behind_moves t k c st few f)
    (behind_moves u k d su few g) in
    let k6 = both (class_cut 97 122) (c6 t k c st few f) (c6 u k d su few g) _ _ _ _ k5.1 (child_moved t k c st few f)
    (child_moved u k d su few g) in
    let k7 = both word_of (c7 t k c st few f) (c7 u k d su few g) _ _ _ _ k6.1 (behind_shares t k c st few f)
    (behind_shares u k d su few g) in
    let k8 = both (class_cut 97 122) (c8 t k c st few f) (c8 u k d su few g) _ _ _ _ k7.1 (child_shared t k c st few f)
    (child_shared u k d su few g) in
    let entry = same_number c.entry d.entry f.entry g.entry k4.0 in
    let moved = numbers_same c.moved d.moved f.moved g.moved k6.0 in
    let shared = numbers_same c.shared d.shared f.shared g.shared k8.0 in
    let index = index_same c.index d.index f.index g.index k8.1 in
    λ j. record { entry = entry j; moved = moved j; shared = shared j; index = index j }

-- lines of two tables
tables_same : (t u k n : ℕ) (c d : ChildTable) → t < 2 ^ 64 → u < 2 ^ 64 → k < 2 ^ 64 → n < 2 ^ 64 → ChildFits c
    → ChildFits d → child_words t k c ≡ child_words u n d → t ≡ u
tables_same t u k n c d st su fk fn f g e =
    let k0 = both word_of (child_words t k c) (child_words u n d) _ _ _ _ e (child_table t k c st fk f)
    (child_table u n d su fn g) in
    decimal_injective t u st su k0.0

-- an integer as an operand
abbrev nat_of : ℤ → ℕ
nat_of (pos n) = n
nat_of (negsuc n) = 0

abbrev operand_of : ℤ → Operand
operand_of z = record { number = nat_of z; integer = z }

of_read : (z : ℤ) → IsRead z (operand_of z)
of_read z = record { integer = λ f. refl; number = λ n f e. ap nat_of e }

abbrev nth : ℕ → List ℤ → Operand
nth n [] = operand_of (pos 0)
nth zero (x ∷ xs) = operand_of x
nth (suc n) (x ∷ xs) = nth n xs

agree_all : (zs : List ℤ) → AreReadAs zs (nth 0 zs ∷ nth 1 zs ∷ nth 2 zs ∷ [])
agree_all [] = tt
agree_all (x ∷ []) = (of_read x, tt)
agree_all (x ∷ (y ∷ [])) = (of_read x, (of_read y, tt))
agree_all (x ∷ (y ∷ (z ∷ []))) = (of_read x, (of_read y, (of_read z, tt)))
agree_all (x ∷ (y ∷ (z ∷ (w ∷ zs)))) = (of_read x, (of_read y, (of_read z, tt)))

signed_same : (y z : ℤ) → mag y < 2 ^ 63 → mag z < 2 ^ 63 → signed_decimal y ≡ signed_decimal z → y ≡ z
signed_same (pos m) (pos n) p q e = ap pos (decimal_injective m n (omega arith) (omega arith) e)
signed_same (pos m) (negsuc n) p q e = absurd (no_minus m (decimal (suc n)) (omega arith) e)
  where
    no_minus : (m : ℕ) (ds : List ℕ) → m < 2 ^ 64 → decimal m ≡ 45 ∷ ds → ⊥
    no_minus m ds l e = let w : AllInRange 48 57 (45 ∷ ds) = subst (AllInRange 48 57) e (digits_within m l) in
        let a = w.0 in
        omega arith
signed_same (negsuc m) (pos n) p q e = absurd (no_minus n (decimal (suc m)) (omega arith) (sym e))
  where
    no_minus : (m : ℕ) (ds : List ℕ) → m < 2 ^ 64 → decimal m ≡ 45 ∷ ds → ⊥
    no_minus m ds l e = let w : AllInRange 48 57 (45 ∷ ds) = subst (AllInRange 48 57) e (digits_within m l) in
        let a = w.0 in
        omega arith
signed_same (negsuc m) (negsuc n) p q e = ap negsuc
    (omega (arith, decimal_injective (suc m) (suc n) (omega arith) (omega arith) (ap (drop 1) e)))

some_operand : (z : ℤ) (more : List ℕ) → operand_text z ++ more ≡ [] → ⊥
some_operand z more e = cc

operands_same : (ys zs : List ℤ) → AreSmall ys → AreSmall zs → flat_map operand_text ys ≡ flat_map operand_text zs
    → ys ≡ zs
operands_same [] [] a b e = refl
operands_same [] (z ∷ zs) a b e = absurd (some_operand z (flat_map operand_text zs) (sym e))
operands_same (y ∷ ys) [] a b e = absurd (some_operand y (flat_map operand_text ys) e)
operands_same (y ∷ ys) (z ∷ zs) a b e =
    let k = both word_of (flat_map operand_text (y ∷ ys)) (flat_map operand_text (z ∷ zs)) _ _ _ _ e
    (operand_cut y ys a.0) (operand_cut z zs b.0) in
    let one = signed_same y z a.0 b.0 k.0 in
    let rest = operands_same ys zs a.1 b.1 k.1 in
    λ j. one j ∷ rest j

instr_same : (x y : Instr) → InstrFits x → InstrFits y → instr_text x ≡ instr_text y → x ≡ y
instr_same x y f g e =
    let k = both (class_cut 45 57) (instr_text x) (instr_text y) _ _ _ _ e (instr_cut x f) (instr_cut y g) in
    let named : plain x ≡ plain y = same_Some (plain x) (plain y) (sym (named_plain x) ∙ ap instr_named k.0
    ∙ named_plain y) in
    let ops : operands x ≡ operands y = operands_same (operands x) (operands y) (operands_small x f)
    (operands_small y g) k.1 in
    sym (filled_plain x f (nth 0 (operands x)) (nth 1 (operands x)) (nth 2 (operands x)) (agree_all (operands x)))
    ∙ (λ j. with_operands (named j) (nth 0 (ops j)) (nth 1 (ops j)) (nth 2 (ops j)))
    ∙ filled_plain y g (nth 0 (operands y)) (nth 1 (operands y)) (nth 2 (operands y)) (agree_all (operands y))

-- no two items that can follow the same parts have one text
module _ (p : Parts) (code : IsCode p) where
  forks_few : length p.forks < 2 ^ 64
  forks_few = let a = code.sizes.forks in omega arith

  before_few : length p.forks - 1 < 2 ^ 64
  before_few = let a = code.sizes.forks in omega arith

  other : (x y : Item) → CanFollow p x → CanFollow p y → item_text p x ≡ item_text p y → kind_of_item x ≡ kind_of_item y
  other x y h k e = sym (kind_is p x h) ∙ ap kind_of e ∙ kind_is p y k

  pub item_alone : (x y : Item) → CanFollow p x → CanFollow p y → item_text p x ≡ item_text p y → x ≡ y
  item_alone (item.Layout l) (item.Layout m) h k e = ap item.Layout (layout_same l m h.1 k.1 (sym (layout_behind l)
      ∙ ap (drop 6) e ∙ layout_behind m))
  item_alone (item.Layout l) (item.Text u) h k e = let a : kind.Layout ≡ kind.Text = other (item.Layout l)
      (item.Text u) h k e in absurd (cc a)
  item_alone (item.Layout l) (item.Instr y) h k e = let a : kind.Layout ≡ kind.Instr = other (item.Layout l)
      (item.Instr y) h k e in absurd (cc a)
  item_alone (item.Layout l) (item.Table d) h k e = let a : kind.Layout ≡ kind.Child = other (item.Layout l)
      (item.Table d) h k e in absurd (cc a)
  item_alone (item.Layout l) (item.Child d) h k e = let a : kind.Layout ≡ kind.Child = other (item.Layout l)
      (item.Child d) h k e in absurd (cc a)
  item_alone (item.Text t) (item.Layout m) h k e = let a : kind.Text ≡ kind.Layout = other (item.Text t)
      (item.Layout m) h k e in absurd (cc a)
  item_alone (item.Text t) (item.Text u) h k e = ap item.Text (sym (bytes_back t h.1)
      ∙ ap (λ (z : List ℕ). bytes_of (drop 5 z)) e ∙ bytes_back u k.1)
  item_alone (item.Text t) (item.Instr y) h k e = let a : kind.Text ≡ kind.Instr = other (item.Text t)
      (item.Instr y) h k e in absurd (cc a)
  item_alone (item.Text t) (item.Table d) h k e = let a : kind.Text ≡ kind.Child = other (item.Text t)
      (item.Table d) h k e in absurd (cc a)
  item_alone (item.Text t) (item.Child d) h k e = let a : kind.Text ≡ kind.Child = other (item.Text t)
      (item.Child d) h k e in absurd (cc a)
  item_alone (item.Instr x) (item.Layout m) h k e = let a : kind.Instr ≡ kind.Layout = other (item.Instr x)
      (item.Layout m) h k e in absurd (cc a)
  item_alone (item.Instr x) (item.Text u) h k e = let a : kind.Instr ≡ kind.Text = other (item.Instr x)
      (item.Text u) h k e in absurd (cc a)
  item_alone (item.Instr x) (item.Instr y) h k e =
      let few : length p.instrs < 2 ^ 64 = let (_, room) = h.0 in omega (arith, room) in
      ap item.Instr (instr_same x y h.1 k.1
      (sym (instr_behind (item_text p (item.Instr x)) (length p.instrs) x few refl)
      ∙ ap (λ (z : List ℕ). drop 1 (blank_cut z).1) e
      ∙ instr_behind (item_text p (item.Instr y)) (length p.instrs) y few refl))
  item_alone (item.Instr x) (item.Table d) h k e = let a : kind.Instr ≡ kind.Child = other (item.Instr x)
      (item.Table d) h k e in absurd (cc a)
  item_alone (item.Instr x) (item.Child d) h k e = let a : kind.Instr ≡ kind.Child = other (item.Instr x)
      (item.Child d) h k e in absurd (cc a)
  item_alone (item.Table c) (item.Layout m) h k e = let a : kind.Child ≡ kind.Layout = other (item.Table c)
      (item.Layout m) h k e in absurd (cc a)
  item_alone (item.Table c) (item.Text u) h k e = let a : kind.Child ≡ kind.Text = other (item.Table c)
      (item.Text u) h k e in absurd (cc a)
  item_alone (item.Table c) (item.Instr y) h k e = let a : kind.Child ≡ kind.Instr = other (item.Table c)
      (item.Instr y) h k e in absurd (cc a)
  item_alone (item.Table c) (item.Table d) h k e =
      ap item.Table (child_same (length p.forks) (length p.forks) 0 c d forks_few forks_few (omega arith) h.1 k.1
      (sym (child_behind (length p.forks) 0 c) ∙ ap (drop 5) e ∙ child_behind (length p.forks) 0 d))
  item_alone (item.Table c) (item.Child d) h k e =
      let same = tables_same (length p.forks) (length p.forks - 1) 0 (last_children p.forks) c d forks_few before_few
      (omega arith) (let (_, few) = k.0 in omega (arith, few)) h.1 k.1
      (sym (child_behind (length p.forks) 0 c) ∙ ap (drop 5) e
      ∙ child_behind (length p.forks - 1) (last_children p.forks) d) in
      absurd (let (some, _) = k.0 in omega (arith, some))
  item_alone (item.Child c) (item.Layout m) h k e = let a : kind.Child ≡ kind.Layout = other (item.Child c)
      (item.Layout m) h k e in absurd (cc a)
  item_alone (item.Child c) (item.Text u) h k e = let a : kind.Child ≡ kind.Text = other (item.Child c)
      (item.Text u) h k e in absurd (cc a)
  item_alone (item.Child c) (item.Instr y) h k e = let a : kind.Child ≡ kind.Instr = other (item.Child c)
      (item.Instr y) h k e in absurd (cc a)
  item_alone (item.Child c) (item.Table d) h k e =
      let same = tables_same (length p.forks - 1) (length p.forks) (last_children p.forks) 0 c d before_few forks_few
      (let (_, few) = h.0 in omega (arith, few)) (omega arith) h.1 k.1
      (sym (child_behind (length p.forks - 1) (last_children p.forks) c) ∙ ap (drop 5) e
      ∙ child_behind (length p.forks) 0 d) in
      absurd (let (some, _) = h.0 in omega (arith, some))
  item_alone (item.Child c) (item.Child d) h k e =
      ap item.Child (child_same (length p.forks - 1) (length p.forks - 1)
      (last_children p.forks) c d before_few before_few (let (_, few) = h.0 in omega (arith, few)) h.1 k.1
      (sym (child_behind (length p.forks - 1) (last_children p.forks) c) ∙ ap (drop 5) e
      ∙ child_behind (length p.forks - 1) (last_children p.forks) d))

-- every code's text goes on only in codes that go on from it
all_go_on : (p : Parts) (xs : List Item) (q : Parts) → IsCode p → GoesOn p → ItemsLead p xs q → GoesOn q
all_go_on p [] q c on e = subst GoesOn e on
all_go_on p (x ∷ xs) q c on h = all_go_on (after_item p x) xs q (code_step p x c h.0)
    (goes_on_next p x c h.0 (λ y k e. item_alone p c y x k h.0 (sym e)) on) h.1

-- a text is that of one code
pub one_code : (p q : Parts) (bytes : List ℕ) → IsTextOf p bytes → IsTextOf q bytes → p ≡ q
one_code p q bytes s t =
    let from = from_nothing q t.code in
    let on = all_go_on no_parts from.0 q no_parts_code none_goes_on from.1 in
    none_left q p on s.code (sym s.text ∙ t.text)
