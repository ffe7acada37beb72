-- Reading the lines of layouts and children, word by word.
use Rattle.std.proofs.Common.{◌≡◌, ◌≢◌, ℕ, ◌^◌, ◌<◌, Bool, true, false, List, [], ◌∷◌, ◌++◌, length, drop, Option, Some}
use Rattle.std.proofs.Common.{None, refl, sym, ap, ◌∙◌, subst, arith, append_assoc, append-nil, codes, decimal, All}
use Rattle.std.specs.List.{flat_map}
use Rattle.sp_code.specs.declared.code.ChildTable.{ChildTable}
use Rattle.sp_code.specs.declared.code.Formal.{Formal}
use Rattle.sp_code.specs.declared.code.Formal.TheVariants as formal
use Rattle.sp_code.specs.declared.code.Layout.{Layout}
use Rattle.sp_code.specs.Listing.{number_text}
use Rattle.sp_codefile.specs.CodeText.{parent_text, answer_text, formal_text, layout_text, index_text, child_text}
use Rattle.sp_codefile.specs.CodeText.{IsNumber, MayBeNumber, FormalFits, LayoutFits, ChildFits}
use Rattle.sp_codefile.specs.Cuts.{word_of, class_cut}
use Rattle.sp_codefile.specs.Lines.{parent_word, answer_word, layout_words, child_words}
use Rattle.sp_codefile.proofs.TextLaws.{child_body}
use Rattle.sp_codefile.proofs.WordLaws.{AtBlank, AtClass, blank_at, class_at, digits_no_blank, numbers_no_letter}
use Rattle.sp_codefile.proofs.WordLaws.{follow, word_shorter, at_blank}

-- a number that stands before something else
pub number_before : (n : ℕ) (rest : List ℕ) → n < 2 ^ 64 → AtBlank rest
    → word_of (number_text n ++ rest) ≡ (decimal n, rest)
number_before n rest l a = blank_at (decimal n) rest (digits_no_blank n l) a

-- numbers that stand before a word or nothing
pub numbers_before : (ns : List ℕ) (rest : List ℕ) → All IsNumber ns → AtClass 97 122 rest
    → class_cut 97 122 (flat_map number_text ns ++ rest) ≡ (flat_map number_text ns, rest)
numbers_before ns rest a b = class_at 97 122 (flat_map number_text ns) rest refl (numbers_no_letter ns a) b

pub no_formal : (f : Formal) (more : List ℕ) → formal_text f ++ more ≡ [] → ⊥
no_formal (formal.Value n) more e = cc
no_formal (formal.Reference n) more e = cc

pub shorter_twice : (t u v : List ℕ) → 0 < length t → u ≡ (word_of t).1 → v ≡ (word_of u).1 → length v < length t
shorter_twice t u v some e f = by u (subst (λ (x : List ℕ). length x < length t) (sym e) (word_shorter t some)) f
  where
    by : (u : List ℕ) → length u < length t → v ≡ (word_of u).1 → length v < length t
    by [] l g = subst (λ (x : List ℕ). length x < length t) (sym g) l
    by (x ∷ xs) l g = let h = word_shorter (x ∷ xs) (omega arith) in subst (λ (y : List ℕ). length y < length t) (sym g)
        (omega arith)

pub blank_formals : (fs : List Formal) → AtBlank (flat_map formal_text fs)
blank_formals [] = tt
blank_formals (formal.Value n ∷ fs) = refl
blank_formals (formal.Reference n ∷ fs) = refl

pub formal_read : (f : Formal) (fs : List Formal) → FormalFits f → (t name u cells v : List ℕ) (n : ℕ) (g : Formal)
    → t ≡ formal_text f ++ flat_map formal_text fs
    → name ≡ (word_of t).0 → u ≡ (word_of t).1 → cells ≡ (word_of u).0 → v ≡ (word_of u).1
    → ((m : ℕ) → IsNumber m → cells ≡ decimal m → n ≡ m)
    → (name ≡ codes "value" → g ≡ formal.Value n) → (name ≡ codes "reference" → g ≡ formal.Reference n) → (g ≡ f)
    × (v ≡ flat_map formal_text fs)
formal_read (formal.Value m) fs l t name u cells v n g e a b c d r p q =
    let k = follow word_of t _ (codes "value") (number_text m ++ flat_map formal_text fs) name u (e
    ∙ append_assoc (codes " value") (number_text m) (flat_map formal_text fs)) refl a b in
    let h = follow word_of u _ (decimal m) (flat_map formal_text fs) cells v k.1
    (number_before m (flat_map formal_text fs) (omega arith) (blank_formals fs)) c d in
    (p k.0 ∙ ap formal.Value (r m l h.0), h.1)
formal_read (formal.Reference m) fs l t name u cells v n g e a b c d r p q =
    let k = follow word_of t _ (codes "reference") (number_text m ++ flat_map formal_text fs) name u (e
    ∙ append_assoc (codes " reference") (number_text m) (flat_map formal_text fs)) refl a b in
    let h = follow word_of u _ (decimal m) (flat_map formal_text fs) cells v k.1
    (number_before m (flat_map formal_text fs) (omega arith) (blank_formals fs)) c d in
    (q k.0 ∙ ap formal.Reference (r m l h.0), h.1)

-- a layout's line behind its first word, from each word on
module _ (l : Layout) (f : LayoutFits l) where
  abbrev pub l9 : List ℕ
  l9 = flat_map formal_text l.formals

  abbrev pub l8 : List ℕ
  l8 = codes " formals" ++ l9

  abbrev pub l7 : List ℕ
  l7 = flat_map number_text l.variables ++ l8

  abbrev pub l6 : List ℕ
  l6 = codes " variables" ++ l7

  abbrev pub l5 : List ℕ
  l5 = flat_map number_text l.sizes ++ l6

  abbrev pub l4 : List ℕ
  l4 = codes " sizes" ++ l5

  abbrev pub l3 : List ℕ
  l3 = answer_text l.answer ++ l4

  abbrev pub l2 : List ℕ
  l2 = parent_text l.parent ++ l3

  abbrev pub l1 : List ℕ
  l1 = number_text l.entry ++ l2

  blank_answer : (b : Bool) → AtBlank (answer_text b ++ l4)
  blank_answer true = refl
  blank_answer false = refl

  blank_parent : (p : Option ℕ) → AtBlank (parent_text p ++ l3)
  blank_parent None = refl
  blank_parent (Some b) = refl

  parent_cut : (p : Option ℕ) → MayBeNumber p → word_of (parent_text p ++ l3) ≡ (parent_word p, l3)
  parent_cut None m = blank_at (codes "-") l3 (refl, tt) (blank_answer l.answer)
  parent_cut (Some b) m = number_before b l3 (omega arith) (blank_answer l.answer)

  answer_cut : (b : Bool) → word_of (answer_text b ++ l4) ≡ (answer_word b, l4)
  answer_cut true = refl
  answer_cut false = refl

  pub layout_block : word_of (layout_words l) ≡ (decimal l.block, l1)
  layout_block = number_before l.block l1 (let a = f.block in omega arith) refl

  pub layout_entry : word_of l1 ≡ (decimal l.entry, l2)
  layout_entry = number_before l.entry l2 (let a = f.entry in omega arith) (blank_parent l.parent)

  pub layout_parent : word_of l2 ≡ (parent_word l.parent, l3)
  layout_parent = parent_cut l.parent f.parent

  pub layout_answer : word_of l3 ≡ (answer_word l.answer, l4)
  layout_answer = answer_cut l.answer

  pub behind_sizes : word_of l4 ≡ (codes "sizes", l5)
  behind_sizes = blank_at (codes "sizes") l5 (refl, (refl, (refl, (refl, (refl, tt))))) (at_blank l.sizes l6 refl)

  pub layout_sizes : class_cut 97 122 l5 ≡ (flat_map number_text l.sizes, l6)
  layout_sizes = numbers_before l.sizes l6 f.sizes (refl, refl)

  pub behind_variables : word_of l6 ≡ (codes "variables", l7)
  behind_variables = blank_at (codes "variables") l7
      (refl, (refl, (refl, (refl, (refl, (refl, (refl, (refl, (refl, tt))))))))) (at_blank l.variables l8 refl)

  pub layout_variables : class_cut 97 122 l7 ≡ (flat_map number_text l.variables, l8)
  layout_variables = numbers_before l.variables l8 f.variables (refl, refl)

  pub behind_formals : word_of l8 ≡ (codes "formals", l9)
  behind_formals = blank_at (codes "formals") l9 (refl, (refl, (refl, (refl, (refl, (refl, (refl, tt)))))))
      (blank_formals l.formals)

layout_grouped : (a b c d e s t v w x y : List ℕ) → a ++ b ++ c ++ d ++ e ++ s ++ t ++ v ++ w ++ x ++ y ≡ a
    ++ (b ++ (c ++ (d ++ (e ++ (s ++ (t ++ (v ++ (w ++ (x ++ y)))))))))
layout_grouped a b c d e s t v w x y = simp append_assoc refl

pub layout_behind : (l : Layout) → drop 6 (layout_text l) ≡ layout_words l
layout_behind l = ap (drop 6) (layout_grouped (codes "layout") (number_text l.block) (number_text l.entry)
    (parent_text l.parent) (answer_text l.answer) (codes " sizes") (flat_map number_text l.sizes) (codes " variables")
    (flat_map number_text l.variables) (codes " formals") (flat_map formal_text l.formals))

-- a child's line behind its first word, from each word on
module _ (t k : ℕ) (c : ChildTable) (small : t < 2 ^ 64) (few : k < 2 ^ 64) (f : ChildFits c) where
  abbrev pub c9 : List ℕ
  c9 = index_text c.index

  abbrev pub c8 : List ℕ
  c8 = flat_map number_text c.shared ++ c9

  abbrev pub c7 : List ℕ
  c7 = codes " shares" ++ c8

  abbrev pub c6 : List ℕ
  c6 = flat_map number_text c.moved ++ c7

  abbrev pub c5 : List ℕ
  c5 = codes " moves" ++ c6

  abbrev pub c4 : List ℕ
  c4 = number_text c.entry ++ c5

  abbrev pub c3 : List ℕ
  c3 = codes " entry" ++ c4

  abbrev pub c2 : List ℕ
  c2 = number_text k ++ c3

  abbrev pub c1 : List ℕ
  c1 = codes " child" ++ c2

  blank_index : (i : Option ℕ) → AtBlank (index_text i)
  blank_index None = tt
  blank_index (Some v) = refl

  class_index : (i : Option ℕ) → AtClass 97 122 (index_text i)
  class_index None = tt
  class_index (Some v) = (refl, refl)

  pub child_table : word_of (child_words t k c) ≡ (decimal t, c1)
  child_table = number_before t c1 small refl

  pub behind_child : word_of c1 ≡ (codes "child", c2)
  behind_child = blank_at (codes "child") c2 (refl, (refl, (refl, (refl, (refl, tt))))) refl

  pub child_number : word_of c2 ≡ (decimal k, c3)
  child_number = number_before k c3 few refl

  pub behind_entry : word_of c3 ≡ (codes "entry", c4)
  behind_entry = blank_at (codes "entry") c4 (refl, (refl, (refl, (refl, (refl, tt))))) refl

  pub child_entry_cut : word_of c4 ≡ (decimal c.entry, c5)
  child_entry_cut = number_before c.entry c5 (let a = f.entry in omega arith) refl

  pub behind_moves : word_of c5 ≡ (codes "moves", c6)
  behind_moves = blank_at (codes "moves") c6 (refl, (refl, (refl, (refl, (refl, tt))))) (at_blank c.moved c7 refl)

  pub child_moved : class_cut 97 122 c6 ≡ (flat_map number_text c.moved, c7)
  child_moved = numbers_before c.moved c7 f.moved (refl, refl)

  pub behind_shares : word_of c7 ≡ (codes "shares", c8)
  behind_shares = blank_at (codes "shares") c8 (refl, (refl, (refl, (refl, (refl, (refl, tt))))))
      (at_blank c.shared c9 (blank_index c.index))

  pub child_shared : class_cut 97 122 c8 ≡ (flat_map number_text c.shared, c9)
  child_shared = numbers_before c.shared c9 f.shared (class_index c.index)

child_grouped : (a t b k d e m n s o x : List ℕ) → (a ++ t ++ b ++ k ++ d ++ e) ++ (m ++ n ++ s ++ o) ++ x ≡ a
    ++ (t ++ (b ++ (k ++ (d ++ (e ++ (m ++ (n ++ (s ++ (o ++ x)))))))))
child_grouped a t b k d e m n s o x = simp append_assoc refl

pub child_behind : (t k : ℕ) (c : ChildTable) → drop 5 (child_text t k c) ≡ child_words t k c
child_behind t k c = ap (drop 5) (ap (λ (z : List ℕ). z ++ index_text c.index) (child_body t k c)
    ∙ child_grouped (codes "table ") (decimal t) (codes " child ") (decimal k) (codes " entry ") (decimal c.entry)
    (codes " moves") (flat_map number_text c.moved) (codes " shares") (flat_map number_text c.shared)
    (index_text c.index))

-- what is read of a layout's line
pub record LayoutRead (l : Layout) (w0 w1 w2 w3 s v p : List ℕ) : Type 0 where
  pub block : w0 ≡ decimal l.block
  pub entry : w1 ≡ decimal l.entry
  pub parent : w2 ≡ parent_word l.parent
  pub answer : w3 ≡ answer_word l.answer
  pub sizes : s ≡ flat_map number_text l.sizes
  pub variables : v ≡ flat_map number_text l.variables
  pub formals : p ≡ flat_map formal_text l.formals

rest_of : (f : List ℕ → List ℕ × List ℕ) (t x w r b : List ℕ) → t ≡ x → f x ≡ (w, r) → b ≡ (f t).1 → b ≡ r
rest_of f t x w r b e g k = k ∙ ap (λ (p : List ℕ × List ℕ). p.1) (ap f e ∙ g)

pub layout_back : (l : Layout) (f : LayoutFits l) (t w0 r0 w1 r1 w2 r2 w3 r3 r4 s r5 r6 v r7 r8 : List ℕ)
    → t ≡ layout_words l
    → w0 ≡ (word_of t).0 → r0 ≡ (word_of t).1 → w1 ≡ (word_of r0).0 → r1 ≡ (word_of r0).1 → w2 ≡ (word_of r1).0
    → r2 ≡ (word_of r1).1 → w3 ≡ (word_of r2).0 → r3 ≡ (word_of r2).1
    → r4 ≡ (word_of r3).1 → s ≡ (class_cut 97 122 r4).0 → r5 ≡ (class_cut 97 122 r4).1 → r6 ≡ (word_of r5).1
    → v ≡ (class_cut 97 122 r6).0 → r7 ≡ (class_cut 97 122 r6).1 → r8 ≡ (word_of r7).1
    → LayoutRead l w0 w1 w2 w3 s v r8
layout_back l f t w0 r0 w1 r1 w2 r2 w3 r3 r4 s r5 r6 v r7 r8 e a0 b0 a1 b1 a2 b2 a3 b3 b4 a5 b5 b6 a7 b7 b8 =
    let k0 = follow word_of t (layout_words l) _ _ w0 r0 e (layout_block l f) a0 b0 in
    let k1 = follow word_of r0 (l1 l f) _ _ w1 r1 k0.1 (layout_entry l f) a1 b1 in
    let k2 = follow word_of r1 (l2 l f) _ _ w2 r2 k1.1 (layout_parent l f) a2 b2 in
    let k3 = follow word_of r2 (l3 l f) _ _ w3 r3 k2.1 (layout_answer l f) a3 b3 in
    let k4 = rest_of word_of r3 (l4 l f) _ _ r4 k3.1 (behind_sizes l f) b4 in
    let k5 = follow (class_cut 97 122) r4 (l5 l f) _ _ s r5 k4 (layout_sizes l f) a5 b5 in
    let k6 = rest_of word_of r5 (l6 l f) _ _ r6 k5.1 (behind_variables l f) b6 in
    let k7 = follow (class_cut 97 122) r6 (l7 l f) _ _ v r7 k6 (layout_variables l f) a7 b7 in
    let k8 = rest_of word_of r7 (l8 l f) _ _ r8 k7.1 (behind_formals l f) b8 in record {
      block = k0.0;
      entry = k1.0;
      parent = k2.0;
      answer = k3.0;
      sizes = k5.0;
      variables = k7.0;
      formals = k8;
    }

-- what is read of a child's line
pub record ChildRead (k : ℕ) (c : ChildTable) (w2 w4 m s i : List ℕ) : Type 0 where
  pub number : w2 ≡ decimal k
  pub entry : w4 ≡ decimal c.entry
  pub moved : m ≡ flat_map number_text c.moved
  pub shared : s ≡ flat_map number_text c.shared
  pub index : i ≡ index_text c.index

pub child_back : (t k : ℕ) (c : ChildTable) → t < 2 ^ 64 → k < 2 ^ 64 → ChildFits c
    → (x r0 r1 w2 r2 r3 w4 r4 r5 m r6 r7 s r8 : List ℕ) → x ≡ child_words t k c
    → r0 ≡ (word_of x).1 → r1 ≡ (word_of r0).1 → w2 ≡ (word_of r1).0 → r2 ≡ (word_of r1).1 → r3 ≡ (word_of r2).1
    → w4 ≡ (word_of r3).0 → r4 ≡ (word_of r3).1 → r5 ≡ (word_of r4).1
    → m ≡ (class_cut 97 122 r5).0 → r6 ≡ (class_cut 97 122 r5).1 → r7 ≡ (word_of r6).1 → s ≡ (class_cut 97 122 r7).0
    → r8 ≡ (class_cut 97 122 r7).1 → ChildRead k c w2 w4 m s r8
child_back t k c st few f x r0 r1 w2 r2 r3 w4 r4 r5 m r6 r7 s r8 e b0 b1 a2 b2 b3 a4 b4 b5 a6 b6 b7 a8 b8 =
    let k0 = rest_of word_of x (child_words t k c) _ _ r0 e (child_table t k c st few f) b0 in
    let k1 = rest_of word_of r0 (c1 t k c st few f) _ _ r1 k0 (behind_child t k c st few f) b1 in
    let k2 = follow word_of r1 (c2 t k c st few f) _ _ w2 r2 k1 (child_number t k c st few f) a2 b2 in
    let k3 = rest_of word_of r2 (c3 t k c st few f) _ _ r3 k2.1 (behind_entry t k c st few f) b3 in
    let k4 = follow word_of r3 (c4 t k c st few f) _ _ w4 r4 k3 (child_entry_cut t k c st few f) a4 b4 in
    let k5 = rest_of word_of r4 (c5 t k c st few f) _ _ r5 k4.1 (behind_moves t k c st few f) b5 in
    let k6 = follow (class_cut 97 122) r5 (c6 t k c st few f) _ _ m r6 k5 (child_moved t k c st few f) a6 b6 in
    let k7 = rest_of word_of r6 (c7 t k c st few f) _ _ r7 k6.1 (behind_shares t k c st few f) b7 in
    let k8 = follow (class_cut 97 122) r7 (c8 t k c st few f) _ _ s r8 k7 (child_shared t k c st few f) a8 b8 in
    record {
      number = k2.0;
      entry = k4.0;
      moved = k6.0;
      shared = k8.0;
      index = k8.1;
    }

-- the index of a forall

pub index_back : (i : Option ℕ) → MayBeNumber i → (t r w : List ℕ) (n : ℕ) → t ≢ [] → t ≡ index_text i
    → r ≡ (word_of t).1 → w ≡ (word_of r).0 → ((m : ℕ) → IsNumber m → w ≡ decimal m → n ≡ m) → Some n ≡ i
index_back None l t r w n some e b a num = absurd (some e)
index_back (Some v) l t r w n some e b a num =
    let k = rest_of word_of t (index_text (Some v)) (codes "index") (number_text v) r e refl b in
    let h = ap (λ (p : List ℕ × List ℕ). p.0) (ap word_of (k ∙ sym (append-nil (number_text v)))
    ∙ number_before v [] (omega arith) tt) in
    ap (λ (x : ℕ). Some x) (num v l (a ∙ h))

-- words that are read

pub parent_read : (p : Option ℕ) → MayBeNumber p → (w : List ℕ) (r : Option ℕ) → w ≡ parent_word p
    → (w ≡ codes "-" → r ≡ None) → ((b : ℕ) → IsNumber b → w ≡ decimal b → r ≡ Some b) → r ≡ p
parent_read None l w r e f g = f e
parent_read (Some b) l w r e f g = g b l e

pub answer_read : (b : Bool) (w : List ℕ) (r : Bool) → w ≡ answer_word b → (w ≡ codes "answer" → r ≡ true)
    → (w ≡ codes "none" → r ≡ false) → r ≡ b
answer_read true w r e f g = f e
answer_read false w r e f g = g e
