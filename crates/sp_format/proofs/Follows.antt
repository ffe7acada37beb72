-- The canonical text of items has these items.
use Rattle.std.proofs.Common.{◌≡◌, ◌≢◌, ℕ, zero, suc, ◌+◌, ◌-◌, ◌≤◌, ◌||◌, length-append, Bool, true, false, nat_le}
use Rattle.std.proofs.Common.{◌&&◌, ◌==◌, cond, List, [], ◌∷◌, ◌++◌, append_assoc, map, Option, Some, None, refl}
use Rattle.std.proofs.Common.{sym as back_of, ap, ◌∙◌, subst, arith}
use Rattle.std.specs.Prelude.{slice_get}
use Rattle.std.proofs.lemmas.Bool.Decides.{nat_tests}
use Rattle.sp_base.specs.declared.rule.Rule.{Rule}
use Rattle.sp_tree.specs.declared.token.Kind.{Kind}
use Rattle.sp_tree.specs.declared.token.Kind.TheVariants as kind
use Rattle.sp_tree.specs.Characters.{is_blank, is_letter, is_digit, lower_case_letter}
use Rattle.sp_tree.specs.Spelling.{digits_value}
use Rattle.sp_tree.specs.Lexemes.{signs, refused_words, opens_comment, Longest, Comment}
use Rattle.sp_tree.specs.Scans as s
use Rattle.sp_tree.specs.Scans.{BreaksHere, begins_digit, goes_on_real}
use Rattle.sp_tree.proofs.TokenOrder.{each_at}
use Rattle.sp_format.specs.declared.context.Context.{Context}
use Rattle.sp_format.specs.Items.{Item, item, item_from, canonical_spelling, HasItems, no_item, blank, comment, token}
use Rattle.sp_format.specs.Layout.{context_of, gap, items_layout, canonical_text, indentation, breaks, touches, depth}
use Rattle.sp_format.specs.Formats.{HasTree}
use Rattle.sp_scan.proofs.Breaches.{fine_number, fine_name, other_token}
use Rattle.sp_tree.specs.Places.{place_at}
use Rattle.sp_tree.specs.PlainSyntax.{Program}
use Rattle.sp_tree.specs.Breaches.{IsTree}
use Rattle.sp_scan.proofs.TokenPrefixes.{to_lexis}
use Rattle.sp_format.proofs.ItemLists.{one_items}
use Rattle.sp_format.proofs.Neat.{clash, apart_from, program_apart}
use Rattle.sp_format.proofs.Again.{NotPartOfToken, ReadsToken, front_is, BeginsAsKind}
use Rattle.sp_format.proofs.Neighbours.{KeepsTokenRules, IsSoundItem, AreSoundItems, Clear, Apart, kinds_of, all_items}
use Rattle.sp_format.proofs.Neighbours.{is_comment, to_apart, SignHead, signs_head, all_from, sign_at, parts_next}

-- ---- what follows a number

-- a sign of two bytes goes on with no number; one of one byte only if it is the dot
abbrev tail_ok : ℕ → List ℕ → Bool
tail_ok n [] = false
tail_ok n (y ∷ []) = cond (y == 101 || y == 69) false (cond (y == 46) (n == 14) true)
tail_ok n (y ∷ z ∷ d) = cond (y == 101 || y == 69) false (cond (nat_le 48 z && nat_le z 57) false true)

all_tails : all_from tail_ok 0 signs ≡ true
all_tails = refl

tail_of : (n : ℕ) (d : List ℕ) → slice_get signs n ≡ Some d → tail_ok n d ≡ true
tail_of n d p = subst (λ i. tail_ok i d ≡ true) (let z : 0 + n ≡ n = omega arith in z)
    (sign_at tail_ok 0 signs n d all_tails p)

one_real : (y n : ℕ) (b c : Bool) → cond (y == 101 || y == 69) false (cond (y == 46) (n == 14) true) ≡ true
    → (n ≡ 14 → b ≡ false) → ((y == 46 && b) || ((y == 101 || y == 69) && c)) ≡ false
one_real y n true c h f = grind (arith, nat_tests)
one_real y n false c h f = grind (arith, nat_tests)

two_real : (y z : ℕ) (c : Bool) → cond (y == 101 || y == 69) false (cond (nat_le 48 z && nat_le z 57) false true) ≡ true
    → ((y == 46 && (nat_le 48 z && nat_le z 57)) || ((y == 101 || y == 69) && c)) ≡ false
two_real y z c h = grind (arith, nat_tests)

sign_real : (n : ℕ) (d rest : List ℕ) → tail_ok n d ≡ true → (n ≡ 14 → begins_digit rest ≡ false)
    → goes_on_real (d ++ rest) ≡ false
sign_real n [] rest h f = absurd cc
sign_real n (y ∷ []) rest h f = one_real y n (begins_digit rest) (s.begins_signed rest) h f
sign_real n (y ∷ z ∷ d) rest h f = two_real y z (s.begins_signed (z ∷ (d ++ rest))) h

-- behind a dot there is no digit
letter_digits : (y : ℕ) → is_letter y ≡ true → is_digit y ≡ false
letter_digits y h = grind (arith, nat_tests)

quote_digits : (y : ℕ) → (y == 39) ≡ true → is_digit y ≡ false
quote_digits y h = grind (arith, nat_tests)

no_digit_first : (k : Kind) (d rest : List ℕ) → BeginsAsKind k d → clash (kind.Sign 14) k ≡ false
    → begins_digit (d ++ rest) ≡ false
no_digit_first kind.Name [] rest f h = absurd f
no_digit_first kind.Name (y ∷ d) rest f h = letter_digits y f
no_digit_first (kind.Word n) [] rest f h = absurd f
no_digit_first (kind.Word n) (y ∷ d) rest f h = letter_digits y f
no_digit_first kind.Text [] rest f h = absurd f
no_digit_first kind.Text (y ∷ d) rest f h = quote_digits y f
no_digit_first kind.Number d rest f h = absurd cc
no_digit_first (kind.Sign n) d rest f h = by_head d rest (each_at SignHead signs n d signs_head f)
  where
    by_head : (d rest : List ℕ) → SignHead d → begins_digit (d ++ rest) ≡ false
    by_head [] rest g = absurd g
    by_head (y ∷ d) rest g = g.1

dot_by : (k : Kind) (d g rest : List ℕ) (b t : Bool) → BeginsAsKind k d → clash (kind.Sign 14) k ≡ false
    → begins_digit (((cond b (10 ∷ g) (cond t [] (32 ∷ [])) ++ d) ++ rest) ++ 10 ∷ []) ≡ false
dot_by k d g rest true t f h = refl
dot_by k d g rest false true f h = subst (λ l. begins_digit l ≡ false) (back_of (append_assoc d rest (10 ∷ [])))
    (no_digit_first k d (rest ++ 10 ∷ []) f h)
dot_by k d g rest false false f h = refl

dot_after : (c : List ℕ) (before : List Item) (k : Option Kind) (d rest : List ℕ) → IsSoundItem k d
    → Clear (Some (kind.Sign 14)) k → begins_digit
    (((gap (context_of (item (Some (kind.Sign 14)) c ∷ before)) k ++ d) ++ rest) ++ 10 ∷ []) ≡ false
dot_after c before None d rest g h = refl
dot_after c before (Some k) d rest g h =
    let x : Context = context_of (item (Some (kind.Sign 14)) c ∷ before) in
    dot_by k d (indentation (depth x (Some k))) rest (breaks x (Some k)) (touches (Some (kind.Sign 14)) (Some k)) g.0 h

dot_next : (n : ℕ) (c : List ℕ) (before is : List Item) → AreSoundItems is → Apart (Some (kind.Sign n)) is → n ≡ 14
    → begins_digit (items_layout (item (Some (kind.Sign n)) c ∷ before) is ++ 10 ∷ []) ≡ false
dot_next n c before is g h e = at_dot is g (subst (λ n. Apart (Some (kind.Sign n)) is) e h)
  where
    at_fourteen : (is : List Item) → AreSoundItems is → Apart (Some (kind.Sign 14)) is
        → begins_digit (items_layout (item (Some (kind.Sign 14)) c ∷ before) is ++ 10 ∷ []) ≡ false
    at_fourteen [] g h = refl
    at_fourteen (i ∷ is) g h =
        dot_after c before i.kind i.bytes (items_layout (i ∷ item (Some (kind.Sign 14)) c ∷ before) is)
        g.0 h.0

    at_dot : (is : List Item) → AreSoundItems is → Apart (Some (kind.Sign 14)) is
        → begins_digit (items_layout (item (Some (kind.Sign n)) c ∷ before) is ++ 10 ∷ []) ≡ false
    at_dot is g h = subst (λ n. begins_digit (items_layout (item (Some (kind.Sign n)) c ∷ before) is ++ 10 ∷ [])
        ≡ false)
        (back_of e) (at_fourteen is g h)

-- behind a number: no real one
real_touch : (k : Kind) (d rest : List ℕ) → BeginsAsKind k d → touches (Some kind.Number) (Some k) ≡ true
    → ((n : ℕ) → k ≡ kind.Sign n → n ≡ 14 → begins_digit rest ≡ false) → goes_on_real (d ++ rest) ≡ false
real_touch (kind.Sign n) d rest f t g = sign_real n d rest (tail_of n d f) (g n refl)
real_touch _ d rest f t g = absurd cc

real_by : (k : Kind) (d g rest : List ℕ) (b t : Bool) → BeginsAsKind k d → touches (Some kind.Number) (Some k) ≡ t
    → ((n : ℕ) → k ≡ kind.Sign n → n ≡ 14 → begins_digit (rest ++ 10 ∷ []) ≡ false)
    → goes_on_real (((cond b (10 ∷ g) (cond t [] (32 ∷ [])) ++ d) ++ rest) ++ 10 ∷ []) ≡ false
real_by k d g rest true t f e h = refl
real_by k d g rest false true f e h = subst (λ l. goes_on_real l ≡ false) (back_of (append_assoc d rest (10 ∷ [])))
    (real_touch k d (rest ++ 10 ∷ []) f e h)
real_by k d g rest false false f e h = refl

real_after : (c : List ℕ) (before : List Item) (k : Option Kind) (d : List ℕ) (is : List Item) → IsSoundItem k d
    → AreSoundItems is
    → Apart k is → goes_on_real (((gap (context_of (item (Some kind.Number) c ∷ before)) k ++ d)
    ++ items_layout (item k d ∷ item (Some kind.Number) c ∷ before) is) ++ 10 ∷ []) ≡ false
real_after c before None d is g gs h = refl
real_after c before (Some k) d is g gs h =
    let x : Context = context_of (item (Some kind.Number) c ∷ before) in
    real_by k d (indentation (depth x (Some k)))
    (items_layout (item (Some k) d ∷ item (Some kind.Number) c ∷ before) is)
    (breaks x (Some k)) (touches (Some kind.Number) (Some k)) g.0 refl
    (λ n e f. subst (λ k. begins_digit (items_layout (item (Some k) d ∷ item (Some kind.Number) c ∷ before) is
    ++ 10 ∷ [])
    ≡ false) (back_of e) (dot_next n d (item (Some kind.Number) c ∷ before) is gs
    (subst (λ k. Apart (Some k) is) e h) f))

-- what has to follow a token that no rule is broken at it
abbrev MayFollow : Kind → List ℕ → Type 0
MayFollow kind.Number r = goes_on_real r ≡ false
MayFollow k r = Unit {0}

number_next : (c : List ℕ) (before is : List Item) → AreSoundItems is → Apart (Some kind.Number) is
    → goes_on_real (items_layout (item (Some kind.Number) c ∷ before) is ++ 10 ∷ []) ≡ false
number_next c before [] g h = refl
number_next c before (i ∷ is) g h = real_after c before i.kind i.bytes is g.0 g.1 h.1

ends_next : (k : Kind) (c : List ℕ) (before is : List Item) → AreSoundItems is → Apart (Some k) is
    → MayFollow k (items_layout (item (Some k) c ∷ before) is ++ 10 ∷ [])
ends_next kind.Number c before is g h = number_next c before is g h
ends_next _ _ _ _ _ _ = tt

-- there no rule is broken
no_breach : (k : Kind) (c r : List ℕ) → ReadsToken k c r → KeepsTokenRules k c → MayFollow k r → (s : Rule)
    → BreaksHere s (c ++ r) → ⊥
no_breach kind.Number c r y h e = fine_number y.0 y.1
    (subst (λ v. digits_value 0 (map lower_case_letter v) ≤ 9223372036854775807)
    (back_of (front_is (c ++ r) c r refl)) h) e
no_breach kind.Name c r y h e = fine_name y.0 y.1 (omega (arith, length-append c r, h.0))
    (λ n. subst (λ v. slice_get refused_words n ≢ Some (map lower_case_letter v)) (back_of (front_is (c ++ r) c r refl))
    (h.1 n))
no_breach kind.Text c r y h e = other_token y.0 kind.Text y.1 (λ e. cc) (λ e. cc)
no_breach (kind.Word n) c r y h e = other_token y.0 (kind.Word n) y.1 (λ e. cc) (λ e. cc)
no_breach (kind.Sign n) c r y h e = other_token y.0 (kind.Sign n) y.1 (λ e. cc) (λ e. cc)

-- ---- the text again

-- Bytes with these items, at which no rule of characters is broken.
pub data KeptItems : List ℕ → List Item → Type 0 where
  kept_end : KeptItems [] []
  kept_blank : {bs : List ℕ} {is : List Item} → (b : ℕ) → is_blank b ≡ true → KeptItems bs is → KeptItems (b ∷ bs) is
  kept_comment : {bs u : List ℕ} {is : List Item} → Comment bs u → KeptItems u is
      → KeptItems bs (item_from None bs u ∷ is)
  kept_token : {bs u : List ℕ} {is : List Item} → (k : Kind) → opens_comment bs ≡ false → Longest k bs u
      → ((r : Rule) → BreaksHere r bs → ⊥) → KeptItems u is → KeptItems bs (item_from (Some k) bs u ∷ is)

pub has_items : {bs : List ℕ} {is : List Item} → KeptItems bs is → HasItems bs is
has_items kept_end = no_item
has_items (kept_blank b h x) = blank b h (has_items x)
has_items (kept_comment c x) = comment c (has_items x)
has_items (kept_token k o l f x) = token k o l (has_items x)

-- blanks stand before an item
behind_indentation : (n : ℕ) {x : List ℕ} {is : List Item} → KeptItems x is → KeptItems (indentation n ++ x) is
behind_indentation zero h = h
behind_indentation (suc n) h = kept_blank 32 refl (kept_blank 32 refl (behind_indentation n h))

behind_by : (a b t : Bool) (n : ℕ) {x : List ℕ} {is : List Item} → KeptItems x is
    → KeptItems (cond a [] (cond b (10 ∷ indentation n) (cond t [] (32 ∷ []))) ++ x) is
behind_by true b t n h = h
behind_by false true t n h = kept_blank 10 refl (behind_indentation n h)
behind_by false false true n h = h
behind_by false false false n h = kept_blank 32 refl h

behind_gap : (x : Context) (k : Option Kind) {bs : List ℕ} {is : List Item} → KeptItems bs is
    → KeptItems (gap x k ++ bs) is
behind_gap x k h = behind_by x.first (breaks x k) (touches x.previous k) (depth x k) h

regroup : (g c l m : List ℕ) → ((g ++ c) ++ l) ++ m ≡ g ++ (c ++ (l ++ m))
regroup g c l m = append_assoc (g ++ c) l m ∙ append_assoc g c (l ++ m)

-- an item that is read again
reads_comment : {r : List ℕ} {is : List Item} (c : List ℕ) → IsSoundItem None c → KeptItems r is
    → KeptItems (c ++ r) (item None c ∷ is)
reads_comment {r} {is} c g h = subst (λ v. KeptItems (c ++ r) (item None v ∷ is)) (front_is (c ++ r) c r refl)
    (kept_comment (g r) h)

reads_token : {r : List ℕ} {is : List Item} (k : Kind) (c : List ℕ) → IsSoundItem (Some k) c → NotPartOfToken k c r
    → MayFollow k r
    → KeptItems r is → KeptItems (c ++ r) (item (Some k) c ∷ is)
reads_token {r} {is} k c (_, reads, canonical, keeps_rules) p e h =
    let y = reads r p in
    subst (λ v. KeptItems (c ++ r) (item (Some k) v ∷ is))
    (ap (canonical_spelling (Some k)) (front_is (c ++ r) c r refl) ∙ canonical)
    (kept_token k y.0 y.1 (no_breach k c r y keeps_rules e) h)

again_by : (before : List Item) (k : Option Kind) (c : List ℕ) (is : List Item) → IsSoundItem k c → AreSoundItems is
    → Apart k is
    → ((b : List Item) → KeptItems (items_layout b is ++ 10 ∷ []) is)
    → KeptItems (items_layout before (item k c ∷ is) ++ 10 ∷ []) (item k c ∷ is)
again_by before None c is g gs h go =
    let l : List ℕ = items_layout (item None c ∷ before) is in
    subst (λ v. KeptItems v (item None c ∷ is)) (back_of (regroup (gap (context_of before) None) c l (10 ∷ [])))
    (behind_gap (context_of before) None (reads_comment c g (go (item None c ∷ before))))
again_by before (Some k) c is g gs h go =
    let l : List ℕ = items_layout (item (Some k) c ∷ before) is in
    subst (λ v. KeptItems v (item (Some k) c ∷ is)) (back_of (regroup (gap (context_of before) (Some k)) c l (10 ∷ [])))
    (behind_gap (context_of before) (Some k)
    (reads_token k c g (parts_next k c before is g.0 gs h) (ends_next k c before is gs h)
    (go (item (Some k) c ∷ before))))

again : (is : List Item) (p : Option Kind) → AreSoundItems is → Apart p is → (before : List Item)
    → KeptItems (items_layout before is ++ 10 ∷ []) is
again [] p g h before = kept_blank 10 refl kept_end
again (i ∷ is) p g h before = again_by before i.kind i.bytes is g.0 g.1 h.1 (again is i.kind g.1 h.1)

-- The canonical text of a program's items has these items, and its tokens are of the kinds of the program's.
pub record HasCanonicalItems (text : List ℕ) (is : List Item) (ks : List Kind) : Type 0 where
  pub kept : KeptItems (canonical_text is) is
  pub kinds : kinds_of is ≡ ks

pub canonical_kept : {text : List ℕ} {is : List Item} (p : Program) (t : IsTree text p) → HasItems text is
    → HasCanonicalItems text is (map (λ t. t.kind) t.tokens)
canonical_kept {text} {is} p t x =
    let y = all_items refl (λ rest ts z r b. t.are_tokens.kept r (place_at text (s.offset text rest))
    (to_lexis text r (place_at text (s.offset text rest))
    (record { rest = rest; tokens = ts; along = z; here = b; place = refl }))) t.are_tokens.scans in
    let same : y.items ≡ is = one_items y.has x in
    let kinds : kinds_of is ≡ map (λ t. t.kind) t.tokens = ap kinds_of (back_of same) ∙ y.kinds in record {
      kept = again is None (subst AreSoundItems same y.good)
          (to_apart kind.Name None is is_comment
          (subst (apart_from kind.Name) (back_of kinds) (program_apart text t.tokens p t.spells))) [];
      kinds = kinds;
    }

pub canonical_items : {text : List ℕ} {is : List Item} → HasTree text → HasItems text is
    → HasItems (canonical_text is) is
canonical_items (p, t) x = has_items (canonical_kept p t x).kept
