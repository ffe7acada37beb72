-- Rows of blocks and what paths of calls lead to.
use Rattle.std.proofs.Common.{◌≡◌, ◌≢◌, ◌⊎◌, ℕ, zero, suc, ◌+◌, ◌*◌, ◌<◌, ◌≤◌, ◌^◌, Bool, true, false, not, ◌||◌, ◌&&◌}
use Rattle.std.proofs.Common.{List, [], ◌∷◌, length, set, slice_get, refl, sym, ap, subst, ◌∙◌, arith, inl, inr, Some}
use Rattle.std.proofs.lemmas.Bool.{cases_eq, cases_lt, false_from_ne_true, or_cases}
use Rattle.std.proofs.lemmas.List.{length-set}
use Rattle.sp_base.proofs.Facts.{and_not_from, and_not_parts, first_false, or_from_either, second_false}
use Rattle.sp_varsets.specs.declared.var_set.VarSet.{VarSet}
use Rattle.sp_varsets.specs.Members.{has}
use Rattle.sp_varsets.specs.Paths.{row_has, member, PathLeads, ExtendsByPaths, Carried, Visited, PassUpTo, Closes}
use Rattle.sp_varsets.proofs.Words.{below_words}

-- rows of lists
pub set_same : (rows : List VarSet) (b : ℕ) (s : VarSet) → b < length rows → slice_get (set rows b s) b ≡ Some s
set_same [] b s h = absurd (omega arith)
set_same (r ∷ rows) zero s h = refl
set_same (r ∷ rows) (suc b) s h = set_same rows b s (omega arith)

pub set_other : (rows : List VarSet) (b c : ℕ) (s : VarSet) → c ≢ b → slice_get (set rows b s) c ≡ slice_get rows c
set_other [] b c s h = refl
set_other (r ∷ rows) zero zero s h = absurd (h refl)
set_other (r ∷ rows) zero (suc c) s h = refl
set_other (r ∷ rows) (suc b) zero s h = refl
set_other (r ∷ rows) (suc b) (suc c) s h = set_other rows b c s (λ e. h (ap suc e))

pub set_set : (rows : List VarSet) (b : ℕ) (s t : VarSet) → set (set rows b s) b t ≡ set rows b t
set_set [] b s t = refl
set_set (r ∷ rows) zero s t = refl
set_set (r ∷ rows) (suc b) s t = ap (λ z. r ∷ z) (set_set rows b s t)

pub row_is : (rows : List VarSet) (b : ℕ) (s : VarSet) (x : ℕ) → slice_get rows b ≡ Some s → member rows b x ≡ has s x
row_is rows b s x e = ap (λ o. row_has o x) e

pub none_past : (rows : List VarSet) (b x : ℕ) → length rows ≤ b → member rows b x ≡ false
none_past [] b x h = refl
none_past (r ∷ rows) zero x h = absurd (omega arith)
none_past (r ∷ rows) (suc b) x h = none_past rows b x (omega arith)

pub within_rows : (rows : List VarSet) (b x : ℕ) → member rows b x ≡ true → b < length rows
within_rows rows b x h = elim (cases_lt b (length rows))
    [ inl l ↦ l | inr g ↦ absurd (let no : false ≡ true = sym (none_past rows b x g) ∙ h in cc) ]

-- one row carried
pub carried : (old : List VarSet) (to from : ℕ) (row now : VarSet) (hidden : VarSet) (changed : Bool)
    → slice_get old to ≡ Some row → to < length old → from ≢ to
    → ((x : ℕ) → has now x ≡ has row x || (member old from x && not (has hidden x)))
    → (changed ≡ false → (x : ℕ) → has now x ≡ has row x)
    → (changed ≡ true → (x : ℕ) × (has now x ≡ true) × (has row x ≡ false))
    → Carried old (set old to now) to from hidden changed
carried old to from row now hidden changed is within away added same grew = record {
  rows = length-set old to now;
  kept = λ b x h. elim (cases_eq b to) [
    | inl here ↦ at b here x ∙ (added x ∙ or_from_either (has row x) (member old from x && not (has hidden x))
        (inl (sym (was b here x) ∙ h)))
    | inr there ↦ other b there x ∙ h
  ];
  led = λ b x h. elim (cases_eq b to) [
    | inl here ↦ elim (or_cases (has row x) (member old from x && not (has hidden x))
        (sym (added x) ∙ (sym (at b here x) ∙ h))) [
          | inl o ↦ inl (was b here x ∙ o)
          | inr n ↦ inr (
            here,
            (and_not_parts (member old from x) (has hidden x) n).1,
            (and_not_parts (member old from x) (has hidden x) n).0,
          )
        ]
    | inr there ↦ inl (sym (other b there x) ∙ h)
  ];
  others = λ b x there. other b there x;
  full = λ x h m. at to refl x ∙ (added x ∙ or_from_either (has row x) (member old from x && not (has hidden x))
      (inr (and_not_from (member old from x) (has hidden x) (sym (other from away x) ∙ m) h)));
  none = λ e b x. elim (cases_eq b to) [
    | inl here ↦ at b here x ∙ (same e x ∙ sym (was b here x))
    | inr there ↦ other b there x
  ];
  some = λ e. let g = grew e in (g.0, at to refl g.0 ∙ g.1, was to refl g.0 ∙ g.2);
}
  where
    at : (b : ℕ) → b ≡ to → (x : ℕ) → member (set old to now) b x ≡ has now x
    at b here x = ap (λ c. member (set old to now) c x) here
        ∙ row_is (set old to now) to now x (set_same old to now within)

    was : (b : ℕ) → b ≡ to → (x : ℕ) → member old b x ≡ has row x
    was b here x = ap (λ c. member old c x) here ∙ row_is old to row x is

    other : (b : ℕ) → b ≢ to → (x : ℕ) → member (set old to now) b x ≡ member old b x
    other b there x = ap (λ o. row_has o x) (set_other old to b now there)

-- the calls of one block, one after another

pub visited_more : (old mid new : List VarSet) (b : ℕ) (calls hidden : VarSet) (n f : ℕ) (one two : Bool)
    → Visited old mid b calls hidden n one → Carried mid new b f hidden two
    → has calls f ≡ true → n ≤ f → ((x : ℕ) → n ≤ x → x < f → has calls x ≡ false)
    → Visited old new b calls hidden (f + 1) (one || two)
visited_more old mid new b calls hidden n f one two v c is low between = record {
  rows = c.rows ∙ v.rows;
  kept = λ d x h. c.kept d x (v.kept d x h);
  led = λ d x h. elim (c.led d x h) [
    | inl m ↦ v.led d x m
    | inr t ↦ elim (cases_eq f b) [
      | inl itself ↦ v.led d x (subst (λ z. member mid z x ≡ true) (itself ∙ sym t.0) t.2)
      | inr away ↦ inr (t.0, f, is, t.1, sym (v.others f x away) ∙ t.2)
    ]
  ];
  others = λ d x n. c.others d x n ∙ v.others d x n;
  full = λ g x l r h m. elim (cases_eq g f) [
    | inl here ↦ c.full x h (subst (λ z. member new z x ≡ true) here m)
    | inr away ↦ elim (cases_lt g n) [
      | inl before ↦ elim (cases_eq g b) [
        | inl itself ↦ subst (λ z. member new z x ≡ true) itself m
        | inr there ↦ c.kept b x (v.full g x before r h (sym (c.others g x there) ∙ m))
      ]
      | inr after ↦ absurd (let no : false ≡ true = sym (between g after (omega arith)) ∙ r in cc)
    ]
  ];
  none = λ e d x. c.none (second_false one two e) d x ∙ v.none (first_false one two e) d x;
  some = λ e. elim (or_cases one two e) [
    | inl g ↦ (let s = v.some g in (s.0, c.kept b s.0 s.1, s.2))
    | inr g ↦ (let s = c.some g in (
      s.0,
      s.1,
      false_from_ne_true (member old b s.0) (λ h. let no : false ≡ true = sym s.2 ∙ v.kept b s.0 h in cc),
    ))
  ];
}

pub visited_rest : (old new : List VarSet) (b : ℕ) (calls hidden : VarSet) (n m : ℕ) (changed : Bool)
    → Visited old new b calls hidden n changed → ((x : ℕ) → n ≤ x → x < m → has calls x ≡ false)
    → Visited old new b calls hidden m changed
visited_rest old new b calls hidden n m changed v none = record {
  rows = v.rows;
  kept = v.kept;
  led = v.led;
  others = v.others;
  full = λ f x l r h i. elim (cases_lt f n) [
    | inl before ↦ v.full f x before r h i
    | inr after ↦ absurd
        (let no : false ≡ true = sym (none f after l) ∙ r in cc)
  ];
  none = v.none;
  some = v.some;
}

leads_led : (calls hidden old new : List VarSet)
    → ((b x : ℕ) → member new b x ≡ true → (cs : List ℕ) × PathLeads old calls hidden cs b x) → (cs : List ℕ) (b x : ℕ)
    → PathLeads new calls hidden cs b x → (ds : List ℕ) × PathLeads old calls hidden ds b x
leads_led calls hidden old new f [] b x h = f b x h
leads_led calls hidden old new f (c ∷ cs) b x (r, h, l) = let d = leads_led calls hidden old new f cs c x l in
    (c ∷ d.0, (r, h, d.1))

pub follows_then : {calls hidden a b c : List VarSet} → ExtendsByPaths calls hidden a b
    → ExtendsByPaths calls hidden b c
    → ExtendsByPaths calls hidden a c
follows_then {calls} {hidden} {a} {b} {c} f g = record {
  rows = g.rows ∙ f.rows;
  kept = λ d x h. g.kept d x (f.kept d x h);
  led = λ d x h. let l = g.led d x h in leads_led calls hidden a b f.led l.0 d x l.1;
}

pub follows_visit : (calls hidden old new : List VarSet) (b n : ℕ) (r h : VarSet) (changed : Bool)
    → slice_get calls b ≡ Some r → slice_get hidden b ≡ Some h → Visited old new b r h n changed
    → ExtendsByPaths calls hidden old new
follows_visit calls hidden old new b n r h changed er eh v = record {
  rows = v.rows;
  kept = v.kept;
  led = λ c x m. elim (v.led c x m) [
    | inl o ↦ ([], o)
    | inr (here, f, runs, hides, reaches) ↦ (
      f ∷ [],
      (
        ap (λ z. member calls z f) here ∙ (row_is calls b r f er ∙ runs),
        ap (λ z. member hidden z x) here ∙ (row_is hidden b h x eh ∙ hides),
        reaches,
      ),
    )
  ];
}

pub pass_up_to_more : (calls hidden old mid new : List VarSet) (b : ℕ) (r h : VarSet) (one two : Bool)
    → slice_get calls b ≡ Some r → slice_get hidden b ≡ Some h → length old ≤ 2 ^ 32
    → PassUpTo calls hidden old mid b one → Visited mid new b r h (2 ^ 32) two
    → PassUpTo calls hidden old new (b + 1) (one || two)
pass_up_to_more calls hidden old mid new b r h one two er eh small s v = record {
  follows = follows_then s.follows (follows_visit calls hidden mid new b (2 ^ 32) r h two er eh v);
  none = λ e c x. v.none (second_false one two e) c x ∙ s.none (first_false one two e) c x;
  full = λ e c f x l run hide m. elim (cases_eq c b) [
    | inl here ↦
        let rows : length new ≡ length old = v.rows ∙ s.follows.rows in
        let f_in = within_rows new f x m in
        ap (λ z. member new z x) here ∙ v.full f x (omega arith)
        (sym (row_is calls b r f er) ∙ (sym (ap (λ z. member calls z f) here) ∙ run))
        (sym (row_is hidden b h x eh) ∙ (sym (ap (λ z. member hidden z x) here) ∙ hide)) m
    | inr away ↦ v.kept c x (s.full (first_false one two e) c f x (omega arith) run hide
        (sym (v.none (second_false one two e) f x) ∙ m))
  ];
  some = λ e. elim (or_cases one two e) [
    | inl g ↦ (let (d, x, is_there, was_not) = s.some g in (d, x, v.kept d x is_there, was_not))
    | inr g ↦ (let t = v.some g in (
      b,
      t.0,
      t.1,
      false_from_ne_true (member old b t.0) (λ o. let no : false ≡ true = sym t.2 ∙ s.follows.kept b t.0 o in cc),
    ))
  ];
}

-- at the end nothing is left out
pub all_led : (calls hidden rows old : List VarSet) → ((b x : ℕ) → member old b x ≡ true → member rows b x ≡ true)
    → ((b c x : ℕ) → member calls b c ≡ true → member hidden b x ≡ false → member rows c x ≡ true
    → member rows b x ≡ true)
    → (cs : List ℕ) (b x : ℕ) → PathLeads old calls hidden cs b x → member rows b x ≡ true
all_led calls hidden rows old kept full [] b x h = kept b x h
all_led calls hidden rows old kept full (c ∷ cs) b x (r, h, l) =
    full b c x r h (all_led calls hidden rows old kept full cs c x l)

pub closes : (calls hidden old mid new : List VarSet) (changed : Bool) → length calls ≡ length old
    → ExtendsByPaths calls hidden old mid → PassUpTo calls hidden mid new (length mid) changed → changed ≡ false
    → Closes calls hidden old new
closes calls hidden old mid new changed len f s e =
    let all = follows_then f s.follows in record {
      rows = all.rows;
      members = λ b x. (
        λ h. all.led b x h,
        λ l. all_led calls hidden new old all.kept
            (λ c d y run hide m.
            let inside : c < length calls = within_rows calls c d run in
            let same = f.rows in
            s.full e c d y (omega arith) run hide m)
            l.0 b x l.1,
      );
    }

-- how many of the first n numbers are no members of rows
cost : Bool → ℕ
cost true = 0
cost false = 1

holes : (ℕ → Bool) → ℕ → ℕ
holes f zero = 0
holes f (suc n) = cost (f n) + holes f n

cost_le : (a b : Bool) → (a ≡ true → b ≡ true) → cost b ≤ cost a
unfolding cost
cost_le true true k = omega arith
cost_le true false k = absurd (let no : false ≡ true = k refl in cc)
cost_le false true k = omega arith
cost_le false false k = omega arith

cost_lt : (a b : Bool) → b ≡ true → a ≡ false → cost b < cost a
unfolding cost
cost_lt true b h k = absurd (let no : true ≡ false = k in cc)
cost_lt false true h k = omega arith
cost_lt false false h k = absurd (let no : false ≡ true = h in cc)

holes_le : (f g : ℕ → Bool) (n : ℕ) → ((x : ℕ) → f x ≡ true → g x ≡ true) → holes g n ≤ holes f n
unfolding holes
holes_le f g zero h = omega arith
holes_le f g (suc n) h = let rest = holes_le f g n h in let one = cost_le (f n) (g n) (h n) in omega arith

holes_lt : (f g : ℕ → Bool) (n y : ℕ) → ((x : ℕ) → f x ≡ true → g x ≡ true) → y < n → g y ≡ true → f y ≡ false
    → holes g n < holes f n
unfolding holes
holes_lt f g zero y h l a b = absurd (omega arith)
holes_lt f g (suc n) y h l a b = at (cases_eq y n) (λ k. holes_lt f g n y h k a b)
  where
    at : (y ≡ n) ⊎ (y ≢ n) → (y < n → holes g n < holes f n) → cost (g n) + holes g n < cost (f n) + holes f n
    at (inl here) more =
        let rest = holes_le f g n h in
        let one = cost_lt (f n) (g n) (ap g (sym here) ∙ a) (ap f (sym here) ∙ b) in
        omega arith
    at (inr away) more =
        let rest = more (omega arith) in
        let one = cost_le (f n) (g n) (h n) in
        omega arith

pub gaps : List VarSet → ℕ → ℕ
gaps [] n = 0
gaps (s ∷ ss) n = holes (λ x. has s x) n + gaps ss n

pub gaps_le : (old new : List VarSet) (n : ℕ) → length new ≡ length old
    → ((b x : ℕ) → member old b x ≡ true → member new b x ≡ true) → gaps new n ≤ gaps old n
unfolding gaps
gaps_le [] [] n l h = omega arith
gaps_le [] (t ∷ new) n l h = absurd (omega arith)
gaps_le (s ∷ old) [] n l h = absurd (omega arith)
gaps_le (s ∷ old) (t ∷ new) n l h =
    let first = holes_le (λ x. has s x) (λ x. has t x) n (λ x. h zero x) in
    let rest = gaps_le old new n (omega arith) (λ b x. h (suc b) x) in
    omega arith

pub gaps_lt : (old new : List VarSet) (n b x : ℕ) → length new ≡ length old
    → ((c y : ℕ) → member old c y ≡ true → member new c y ≡ true) → x < n → member new b x ≡ true
    → member old b x ≡ false → gaps new n < gaps old n
unfolding gaps
gaps_lt [] [] n b x l h s a c = absurd (let no : false ≡ true = a in cc)
gaps_lt [] (t ∷ new) n b x l h s a c = absurd (omega arith)
gaps_lt (s ∷ old) [] n b x l h lt a c = absurd (omega arith)
gaps_lt (s ∷ old) (t ∷ new) n zero x l h lt a c =
    let first = holes_lt (λ y. has s y) (λ y. has t y) n x (λ y. h zero y) lt a c in
    let rest = gaps_le old new n (omega arith) (λ b y. h (suc b) y) in
    omega arith
gaps_lt (s ∷ old) (t ∷ new) n (suc b) x l h lt a c =
    let first = holes_le (λ y. has s y) (λ y. has t y) n (λ y. h zero y) in
    let rest = gaps_lt old new n b x (omega arith) (λ d y. h (suc d) y) lt a c in
    omega arith

-- a number above all members
pub span : List VarSet → ℕ
span [] = 0
span (s ∷ ss) = 64 * length s.words + span ss

pub below_span : (rows : List VarSet) (b x : ℕ) → member rows b x ≡ true → x < span rows
unfolding span
below_span [] b x h = absurd (let no : false ≡ true = h in cc)
below_span (s ∷ rows) zero x h = let l = below_words s.words x h in omega arith
below_span (s ∷ rows) (suc b) x h = let l = below_span rows b x h in omega arith

pub leads_below : (calls hidden rows : List VarSet) (cs : List ℕ) (b x : ℕ) → PathLeads rows calls hidden cs b x
    → x < span rows
leads_below calls hidden rows [] b x h = below_span rows b x h
leads_below calls hidden rows (c ∷ cs) b x (r, h, l) = leads_below calls hidden rows cs c x l
