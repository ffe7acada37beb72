-- Laws of the texts of names: what they are made of, and that different names have different texts.
use Rattle.std.proofs.Common.{◌≡◌, ℕ, ◌+◌, ◌%◌, ◌^◌, ◌<◌, List, [], ◌∷◌, ◌++◌, Option, Some, None, refl, sym, ap, ◌∙◌}
use Rattle.std.proofs.Common.{subst, arith, append_assoc, append-nil}
use Rattle.std.specs.Fmt.{decimal}
use Rattle.std.specs.List.{flat_map}
use Rattle.std.proofs.lemmas.Grind.{flat_map-append}
use Rattle.std.proofs.lemmas.Fmt.{decimal_by_steps, decimal_injective}
use Rattle.sp_base.specs.declared.name.Pair.{Pair}
use Rattle.sp_base.specs.Names.{pair_text, name_text, channel_text}
use Rattle.sp_journal.specs.Names.{Name, Channel, pairs_of, proc_name, chan_name}
use Rattle.sp_journal.specs.Splits.{last_split}
use Rattle.sp_journal.specs.Reader.{family_text}
use Rattle.sp_journal.proofs.SplitLaws.{AllInRange, HasNone, within_append, within_wider, without_low, last_at}

pub digits_within : (n : ℕ) → n < 2 ^ 64 → AllInRange 48 57 (decimal n)
digits_within n l = decimal_by_steps (λ _ ds. AllInRange 48 57 ds)
    (λ n h. (omega arith, omega arith, tt))
    (λ n ds h w. within_append 48 57 ds ((48 + n % 10) ∷ []) w (omega arith, omega arith, tt))
    n l

-- all numbers in a name are small
abbrev pub IsSmall : Name → Type 0
IsSmall [] = Unit {0}
IsSmall (a ∷ p) = (a.0 < 2 ^ 32) × (a.1 < 2 ^ 32) × IsSmall p

pub child_text : (p : Name) (f k : ℕ) → name_text (proc_name ((f, k) ∷ p)) ≡ family_text p f ++ 46 ∷ decimal k
child_text p f k =
    let x : Pair = record { fork = f; child = k } in
    let last : pair_text x ++ [] ≡ (47 ∷ decimal f) ++ (46 ∷ decimal k) = append-nil (pair_text x)
    ∙ append_assoc (47 ∷ decimal f) (46 ∷ []) (decimal k) in
    ap (λ (y : List ℕ). 48 ∷ y) (flat_map-append pair_text (pairs_of p) (x ∷ [])
    ∙ ap (λ (y : List ℕ). flat_map pair_text (pairs_of p) ++ y) last
    ∙ sym (append_assoc (flat_map pair_text (pairs_of p)) (47 ∷ decimal f) (46 ∷ decimal k)))

pub name_within : (p : Name) → IsSmall p → AllInRange 46 57 (name_text (proc_name p))
name_within [] s = (omega arith, omega arith, tt)
name_within (a ∷ p) s = subst (AllInRange 46 57) (sym (child_text p a.0 a.1))
    (within_append 46 57 (family_text p a.0) (46 ∷ decimal a.1)
    (within_append 46 57 (name_text (proc_name p)) (47 ∷ decimal a.0) (name_within p s.2) (
      omega arith,
      omega arith,
      within_wider 48 57 46 57 (decimal a.0) (omega arith) (omega arith)
          (digits_within a.0 (let h = s.0 in omega arith)),
    )) (
      omega arith,
      omega arith,
      within_wider 48 57 46 57 (decimal a.1) (omega arith) (omega arith)
          (digits_within a.1 (let h = s.1 in omega arith)),
    ))

pub family_within : (p : Name) (f : ℕ) → IsSmall p → f < 2 ^ 32 → AllInRange 46 57 (family_text p f)
family_within p f s l = within_append 46 57 (name_text (proc_name p)) (47 ∷ decimal f) (name_within p s) (
  omega arith,
  omega arith,
  within_wider 48 57 46 57 (decimal f) (omega arith) (omega arith)
      (digits_within f (omega arith)),
)

pub channel_is : (c : Channel) → channel_text (chan_name c) ≡ name_text (proc_name c.owner) ++ 35 ∷ decimal c.nth
channel_is c = append_assoc (name_text (proc_name c.owner)) (35 ∷ []) (decimal c.nth)

pub channel_within : (c : Channel) → IsSmall c.owner → c.nth < 2 ^ 32 → AllInRange 35 57 (channel_text (chan_name c))
channel_within c s l = subst (AllInRange 35 57) (sym (channel_is c))
    (within_append 35 57 (name_text (proc_name c.owner)) (35 ∷ decimal c.nth)
    (within_wider 46 57 35 57 (name_text (proc_name c.owner)) (omega arith) (omega arith) (name_within c.owner s)) (
      omega arith,
      omega arith,
      within_wider 48 57 35 57 (decimal c.nth) (omega arith) (omega arith)
          (digits_within c.nth (omega arith)),
    ))

no_point : (n : ℕ) → n < 2 ^ 32 → (c : ℕ) → c < 48 → HasNone c (decimal n)
no_point n l c h = without_low c 48 57 (decimal n) h (digits_within n (omega arith))

pub child_split : (p : Name) (f k : ℕ) → k < 2 ^ 32
    → last_split 46 (name_text (proc_name ((f, k) ∷ p))) ≡ Some (family_text p f, decimal k)
child_split p f k l = ap (last_split 46) (child_text p f k)
    ∙ last_at 46 (family_text p f) (decimal k) (no_point k l 46 (omega arith))

pub parts_first : (a b c d : List ℕ) → ◌≡◌ {A = Option (List ℕ × List ℕ)} (Some (a, b)) (Some (c, d)) → a ≡ c
parts_first a b c d e = ap first e
  where
    first : Option (List ℕ × List ℕ) → List ℕ
    first None = []
    first (Some p) = p.0

pub parts_second : (a b c d : List ℕ) → ◌≡◌ {A = Option (List ℕ × List ℕ)} (Some (a, b)) (Some (c, d)) → b ≡ d
parts_second a b c d e = ap second e
  where
    second : Option (List ℕ × List ℕ) → List ℕ
    second None = []
    second (Some p) = p.1

pub none_parts : (a b : List ℕ) → ◌≡◌ {A = Option (List ℕ × List ℕ)} None (Some (a, b)) → ⊥
none_parts a b e = cc

-- what stands before a mark and the number after it
pub marked_differ : (c : ℕ) → c < 48 → (xs ys : List ℕ) (m n : ℕ) → m < 2 ^ 32 → n < 2 ^ 32
    → xs ++ c ∷ decimal m ≡ ys ++ c ∷ decimal n → (xs ≡ ys) × (m ≡ n)
marked_differ c h xs ys m n a b e =
    let f = sym (last_at c xs (decimal m) (no_point m a c h)) ∙ ap (last_split c) e
    ∙ last_at c ys (decimal n) (no_point n b c h) in (
      parts_first xs (decimal m) ys (decimal n) f,
      decimal_injective m n (omega arith) (omega arith) (parts_second xs (decimal m) ys (decimal n) f),
    )

-- different names have different texts
pub name_texts_differ : (p q : Name) → IsSmall p → IsSmall q → name_text (proc_name p) ≡ name_text (proc_name q) → p ≡ q
name_texts_differ [] [] s t e = refl
name_texts_differ [] (b ∷ q) s t e = absurd (none_parts (family_text q b.0) (decimal b.1)
    (ap (last_split 46) e ∙ child_split q b.0 b.1 t.1))
name_texts_differ (a ∷ p) [] s t e = absurd (none_parts (family_text p a.0) (decimal a.1)
    (ap (last_split 46) (sym e) ∙ child_split p a.0 a.1 s.1))
name_texts_differ (a ∷ p) (b ∷ q) s t e =
    let f = marked_differ 46 (omega arith) (family_text p a.0) (family_text q b.0) a.1 b.1 s.1 t.1
    (sym (child_text p a.0 a.1) ∙ e ∙ child_text q b.0 b.1) in
    let g = marked_differ 47 (omega arith) (name_text (proc_name p)) (name_text (proc_name q)) a.0 b.0 s.0 t.0 f.0 in
    let h = name_texts_differ p q s.2 t.2 g.0 in
    λ i. (g.1 i, f.1 i) ∷ h i

pub family_texts_differ : (p q : Name) (f g : ℕ) → IsSmall p → IsSmall q → f < 2 ^ 32 → g < 2 ^ 32
    → family_text p f ≡ family_text q g → (p ≡ q) × (f ≡ g)
family_texts_differ p q f g s t a b e =
    let h = marked_differ 47 (omega arith) (name_text (proc_name p)) (name_text (proc_name q)) f g a b e in
    (name_texts_differ p q s t h.0, h.1)

pub channel_texts_differ : (c d : Channel) → IsSmall c.owner → IsSmall d.owner → c.nth < 2 ^ 32 → d.nth < 2 ^ 32
    → channel_text (chan_name c) ≡ channel_text (chan_name d) → (c.owner ≡ d.owner) × (c.nth ≡ d.nth)
channel_texts_differ c d s t a b e =
    let h = marked_differ 35 (omega arith) (name_text (proc_name c.owner)) (name_text (proc_name d.owner)) c.nth d.nth a
    b (sym (channel_is c) ∙ e ∙ channel_is d) in
    (name_texts_differ c.owner d.owner s t h.0, h.1)
