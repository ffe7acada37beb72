-- Reading a line by its kind.
use Rattle.std.proofs.Common.{◌≡◌, ℕ, ◌+◌, ◌*◌, ◌-◌, ◌/◌, ◌%◌, ◌^◌, ◌<◌, ◌≤◌, ◌==◌, nat_lt, Bool, true, false, cond}
use Rattle.std.proofs.Common.{List, [], ◌∷◌, ◌++◌, length, drop, Result, Ok, Err, refl, sym, ap}
use Rattle.std.proofs.Common.{◌∙◌, arith, append_assoc, codes, decimal, All}
use Rattle.std.specs.List.{flat_map}
use Rattle.std.specs.Result.{IfOk}
use Rattle.std.specs.Fmt.{digit_glyph}
use Rattle.std.proofs.lemmas.Bool.Decides.{nat_tests}
use Rattle.std.proofs.lemmas.Fmt.{decimal_nonempty}
use Rattle.std.proofs.lemmas.List.Elements.{All-head, All-tail}
use Rattle.sp_journal.proofs.SplitLaws.{AllInRange}
use Rattle.sp_journal.proofs.TextLaws.{digits_within}
use Rattle.sp_code.specs.declared.code.ChildTable.{ChildTable}
use Rattle.sp_code.specs.declared.code.ForkTable.{ForkTable}
use Rattle.sp_code.specs.declared.code.Layout.{Layout}
use Rattle.sp_code.specs.declared.code.Parts.{Parts}
use Rattle.sp_code.specs.declared.instr.Instr.{Instr}
use Rattle.sp_code.specs.Listing.{instr_text}
use Rattle.sp_code.specs.Sizes.{HasChild}
use Rattle.sp_codefile.specs.declared.item.Item.{Item}
use Rattle.sp_codefile.specs.declared.item.Item.TheVariants as item
use Rattle.sp_codefile.specs.declared.line_reader.LineKind.{LineKind}
use Rattle.sp_codefile.specs.declared.line_reader.LineKind.TheVariants as kind
use Rattle.sp_codefile.specs.CodeText.{byte_text, child_text, index_text, IsByte, IsCode, LayoutFits, ChildFits}
use Rattle.sp_codefile.specs.CodeText.{InstrFits}
use Rattle.sp_codefile.specs.Cuts.{blank_cut}
use Rattle.sp_codefile.specs.Items.{item_text, last_children, CanFollow}
use Rattle.sp_codefile.specs.Lines.{layout_words, child_words, digit_value, bytes_of, kind_of}
use Rattle.sp_codefile.proofs.TextLaws.{child_body}
use Rattle.sp_codefile.proofs.WordLaws.{blank_at, digits_no_blank}
use Rattle.sp_codefile.proofs.LayoutLaws.{layout_behind, child_behind}

-- digits and what they stand for

glyph_value : (d : ℕ) → d < 16 → digit_value (digit_glyph false d) ≡ d
glyph_value d l = by (nat_lt d 10) refl
  where
    low : (d : ℕ) → nat_lt d 10 ≡ true → cond (nat_lt (48 + d) 58) ((48 + d) % 16) (((48 + d) % 16 + 9) % 16) ≡ d
    low d e = let k : nat_lt (48 + d) 58 ≡ true = grind (arith, nat_tests) in let m : d < 10 = grind
        (arith, nat_tests) in ap (λ b. cond b ((48 + d) % 16) (((48 + d) % 16 + 9) % 16)) k ∙ omega arith

    high : (d : ℕ) → d < 16 → nat_lt d 10 ≡ false
        → cond (nat_lt (87 + d) 58) ((87 + d) % 16) (((87 + d) % 16 + 9) % 16) ≡ d
    high d l e = let k : nat_lt (87 + d) 58 ≡ false = grind (arith, nat_tests) in let m : 10 ≤ d = grind
        (arith, nat_tests) in ap (λ b. cond b ((87 + d) % 16) (((87 + d) % 16 + 9) % 16)) k ∙ omega arith

    by : (b : Bool) → nat_lt d 10 ≡ b → digit_value (digit_glyph false d) ≡ d
    by true e = ap (λ b. digit_value (cond b (48 + d) (87 + d))) e ∙ low d e
    by false e = ap (λ b. digit_value (cond b (48 + d) (87 + d))) e ∙ high d l e

pub bytes_back : (t : List ℕ) → All IsByte t → bytes_of (flat_map byte_text t) ≡ t
bytes_back [] a = refl
bytes_back (b ∷ bs) a =
    let l = All-head IsByte b bs a in
    let high = glyph_value (b / 16) (omega arith) in
    let low = glyph_value (b % 16) (omega arith) in
    let whole : b / 16 * 16 + b % 16 ≡ b = omega arith in
    let rest = bytes_back bs (All-tail IsByte b bs a) in
    (λ j. (high j * 16 + low j) ∷ rest j) ∙ ap (λ (x : ℕ). x ∷ bs) whole

-- kinds

abbrev pub kind_of_item : Item → LineKind
kind_of_item (item.Layout l) = kind.Layout
kind_of_item (item.Text t) = kind.Text
kind_of_item (item.Instr x) = kind.Instr
kind_of_item (item.Table c) = kind.Child
kind_of_item (item.Child c) = kind.Child

digit_kind : (ds rest : List ℕ) → 0 < length ds → AllInRange 48 57 ds → kind_of (ds ++ rest) ≡ kind.Instr
digit_kind [] rest s w = absurd (omega arith)
digit_kind (d ∷ ds) rest s w =
    let a = w.0 in
    let b = w.1 in
    let one : d == 108 ≡ false = grind (arith, nat_tests) in
    let two : d == 116 ≡ false = grind (arith, nat_tests) in
    rw one (rw two refl)

child_kind : (t k : ℕ) (c : ChildTable) → kind_of (child_text t k c) ≡ kind.Child
child_kind t k c = ap (λ (z : List ℕ). kind_of (z ++ index_text c.index)) (child_body t k c)

pub kind_is : (p : Parts) (x : Item) → CanFollow p x → kind_of (item_text p x) ≡ kind_of_item x
kind_is p (item.Layout l) h = refl
kind_is p (item.Text t) h = refl
kind_is p (item.Instr x) h =
    let n = length p.instrs in
    let small : n < 2 ^ 64 = let (_, few) = h.0 in omega (arith, few) in
    ap kind_of (append_assoc (decimal n) (codes " ") (instr_text x))
    ∙ digit_kind (decimal n) (codes " " ++ instr_text x) (decimal_nonempty n small) (digits_within n small)
kind_is p (item.Table c) h = child_kind (length p.forks) 0 c
kind_is p (item.Child c) h = child_kind (length p.forks - 1) (last_children p.forks) c

-- this line says this, if it says anything that can come next
abbrev pub LineSays : List ℕ → Item → Type 0
LineSays line x = (p : Parts) (y : Item) → IsCode p → CanFollow p y → line ≡ item_text p y → x ≡ y

module _ (line : List ℕ) where
  pub says_layout : (l : Layout) → kind_of line ≡ kind.Layout
      → ((m : Layout) → LayoutFits m → drop 6 line ≡ layout_words m → l ≡ m) → LineSays line (item.Layout l)
  says_layout l k f p (item.Layout m) c h e = ap item.Layout (f m h.1 (ap (drop 6) e ∙ layout_behind m))
  says_layout l k f p (item.Text t) c h e = let a : kind.Layout ≡ kind.Text = sym k ∙ ap kind_of e
      ∙ kind_is p (item.Text t) h in absurd (cc a)
  says_layout l k f p (item.Instr x) c h e = let a : kind.Layout ≡ kind.Instr = sym k ∙ ap kind_of e
      ∙ kind_is p (item.Instr x) h in absurd (cc a)
  says_layout l k f p (item.Table d) c h e = let a : kind.Layout ≡ kind.Child = sym k ∙ ap kind_of e
      ∙ kind_is p (item.Table d) h in absurd (cc a)
  says_layout l k f p (item.Child d) c h e = let a : kind.Layout ≡ kind.Child = sym k ∙ ap kind_of e
      ∙ kind_is p (item.Child d) h in absurd (cc a)

  pub says_text : (t : List ℕ) → kind_of line ≡ kind.Text → t ≡ bytes_of (drop 5 line) → LineSays line (item.Text t)
  says_text t k f p (item.Layout m) c h e = let a : kind.Text ≡ kind.Layout = sym k ∙ ap kind_of e
      ∙ kind_is p (item.Layout m) h in absurd (cc a)
  says_text t k f p (item.Text u) c h e = ap item.Text (f ∙ ap (λ (z : List ℕ). bytes_of (drop 5 z)) e
      ∙ bytes_back u h.1)
  says_text t k f p (item.Instr x) c h e = let a : kind.Text ≡ kind.Instr = sym k ∙ ap kind_of e
      ∙ kind_is p (item.Instr x) h in absurd (cc a)
  says_text t k f p (item.Table d) c h e = let a : kind.Text ≡ kind.Child = sym k ∙ ap kind_of e
      ∙ kind_is p (item.Table d) h in absurd (cc a)
  says_text t k f p (item.Child d) c h e = let a : kind.Text ≡ kind.Child = sym k ∙ ap kind_of e
      ∙ kind_is p (item.Child d) h in absurd (cc a)

  pub instr_behind : (n : ℕ) (x : Instr) → n < 2 ^ 64 → line ≡ decimal n ++ codes " " ++ instr_text x
      → drop 1 (blank_cut line).1 ≡ instr_text x
  instr_behind n x l e =
      ap (λ (z : List ℕ). drop 1 (blank_cut z).1) (e ∙ append_assoc (decimal n) (codes " ") (instr_text x))
      ∙ ap (λ (z : List ℕ × List ℕ). drop 1 z.1) (blank_at (decimal n) (codes " "
      ++ instr_text x) (digits_no_blank n l) refl)

  pub says_instr : (x : Instr) → kind_of line ≡ kind.Instr
      → ((y : Instr) → InstrFits y → drop 1 (blank_cut line).1 ≡ instr_text y → x ≡ y) → LineSays line (item.Instr x)
  says_instr x k f p (item.Layout m) c h e = let a : kind.Instr ≡ kind.Layout = sym k ∙ ap kind_of e
      ∙ kind_is p (item.Layout m) h in absurd (cc a)
  says_instr x k f p (item.Text t) c h e = let a : kind.Instr ≡ kind.Text = sym k ∙ ap kind_of e
      ∙ kind_is p (item.Text t) h in absurd (cc a)
  says_instr x k f p (item.Instr y) c h e = ap item.Instr
      (f y h.1 (instr_behind (length p.instrs) y (let (_, few) = h.0 in omega (arith, few)) e))
  says_instr x k f p (item.Table d) c h e = let a : kind.Instr ≡ kind.Child = sym k ∙ ap kind_of e
      ∙ kind_is p (item.Table d) h in absurd (cc a)
  says_instr x k f p (item.Child d) c h e = let a : kind.Instr ≡ kind.Child = sym k ∙ ap kind_of e
      ∙ kind_is p (item.Child d) h in absurd (cc a)

  last_some : (fs : List ForkTable) → All HasChild fs → 0 < length fs → 0 < last_children fs
  last_some [] a l = absurd (omega arith)
  last_some (t ∷ []) a l = let h = All-head HasChild t [] a in omega arith
  last_some (t ∷ (u ∷ fs)) a l = last_some (u ∷ fs) (All-tail HasChild t (u ∷ fs) a) (omega arith)

  pub says_child : (x : Item) → kind_of line ≡ kind.Child
      → ((t : ℕ) (c : ChildTable) → t < 2 ^ 64 → ChildFits c → drop 5 line ≡ child_words t 0 c → x ≡ item.Table c)
      → ((t n : ℕ) (c : ChildTable) → t < 2 ^ 64 → 0 < n → n < 2 ^ 64 → ChildFits c → drop 5 line ≡ child_words t n c
      → x ≡ item.Child c) → LineSays line x
  says_child x k f g p (item.Layout m) c h e = let a : kind.Child ≡ kind.Layout = sym k ∙ ap kind_of e
      ∙ kind_is p (item.Layout m) h in absurd (cc a)
  says_child x k f g p (item.Text t) c h e = let a : kind.Child ≡ kind.Text = sym k ∙ ap kind_of e
      ∙ kind_is p (item.Text t) h in absurd (cc a)
  says_child x k f g p (item.Instr y) c h e = let a : kind.Child ≡ kind.Instr = sym k ∙ ap kind_of e
      ∙ kind_is p (item.Instr y) h in absurd (cc a)
  says_child x k f g p (item.Table d) c h e = f (length p.forks) d (let a = h.0 in omega arith) h.1 (ap (drop 5) e
      ∙ child_behind (length p.forks) 0 d)
  says_child x k f g p (item.Child d) c h e =
      let (some, few) = h.0 in
      g (length p.forks - 1) (last_children p.forks) d (let a = c.sizes.forks in omega arith)
      (last_some p.forks c.sizes.children some) (omega (arith, few)) h.1
      (ap (drop 5) e ∙ child_behind (length p.forks - 1) (last_children p.forks) d)

-- the same of a child that may not be read for want of memory
pub says_child_of : {E : Type 0} (line : List ℕ) (r : Result Item E) → kind_of line ≡ kind.Child
    → ((t : ℕ) (c : ChildTable) → t < 2 ^ 64 → ChildFits c → drop 5 line ≡ child_words t 0 c
    → IfOk r (λ x. x ≡ item.Table c))
    → ((t n : ℕ) (c : ChildTable) → t < 2 ^ 64 → 0 < n → n < 2 ^ 64 → ChildFits c → drop 5 line ≡ child_words t n c
    → IfOk r (λ x. x ≡ item.Child c))
    → (p : Parts) (y : Item) → IsCode p → CanFollow p y → line ≡ item_text p y → IfOk r (λ x. x ≡ y)
says_child_of line (Ok x) k f g = says_child line x k f g
says_child_of line (Err e) k f g = λ p y c h d. tt
