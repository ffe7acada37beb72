-- Changes of different parts of the state commute.
use Rattle.std.proofs.Common.{◌≡◌, ◌≢◌, ⊎_elim, ℕ, ◌+◌, List, [], ◌∷◌, refl, sym, ap, ◌∙◌, subst, arith}
use Rattle.sp_meaning.specs.Maps.{IsTest, at_key}
use Rattle.sp_meaning.specs.Model.{Name, same_name, Totals, add, Language, State, Change, Becomes, Forked}
use Rattle.sp_meaning.specs.Model.{WritesLocation}
use Rattle.sp_meaning.specs.Model.{Pends, AddsTotals, Faults, with_change, with_changes}
use Rattle.sp_meaning.proofs.Maps.{same_or_not, differs, at_apart}
use Rattle.sp_meaning.proofs.Keys.{name_test, channel_test}

-- the two are of different parts of the state, or add to one
abbrev pub Apart : {L : Language} → Change L → Change L → Type 0
Apart (Becomes p c) (Becomes q d) = p ≢ q
Apart (WritesLocation l v) (WritesLocation k w) = l ≢ k
Apart (Pends c o) (Pends d n) = c ≢ d
Apart (Faults p f) (Faults q g) = ⊥
Apart a b = Unit

add_swap : (t a b : Totals) → add (add t a) b ≡ add (add t b) a
add_swap t a b =
    let p : (t.processes + a.processes) + b.processes ≡ (t.processes + b.processes) + a.processes = omega arith in
    let c : (t.channels + a.channels) + b.channels ≡ (t.channels + b.channels) + a.channels = omega arith in
    let e : (t.entries + a.entries) + b.entries ≡ (t.entries + b.entries) + a.entries = omega arith in
    λ i. record { processes = p i; channels = c i; entries = e i }

forked_swap : (f : Name → ℕ) (p q r : Name) → at_key same_name p (at_key same_name q (f q + 1) f p + 1)
    (at_key same_name q (f q + 1) f) r ≡ at_key same_name q (at_key same_name p (f p + 1) f q + 1)
    (at_key same_name p (f p + 1) f) r
forked_swap f p q r = ⊎_elim
    (λ (is : p ≡ q). subst (λ z. at_key same_name p (at_key same_name z (f z + 1) f p + 1)
    (at_key same_name z (f z + 1) f) r ≡ at_key same_name z (at_key same_name p (f p + 1) f z + 1)
    (at_key same_name p (f p + 1) f) r) is refl)
    (λ (apart : p ≢ q). rw (differs name_test q p (λ e. apart (sym e)), differs name_test p q apart)
    (ap (λ g. g r) (at_apart name_test f p q (f p + 1) (f q + 1) apart)))
    (same_or_not name_test p q)

pub swaps : {L : Language} → IsTest L.same_loc → (a b : Change L) → Apart a b → (s : State L)
    → with_change a (with_change b s) ≡ with_change b (with_change a s)
swaps {L} loc (Becomes p c) (Becomes q d) h s = λ i. record s { condition = at_apart name_test s.condition p q c d h i }
swaps loc (Forked p) (Forked q) h s = λ i. record s { forks = λ r. forked_swap s.forks p q r i }
swaps {L} loc (WritesLocation l v) (WritesLocation k w) h s = λ i. record s { store = at_apart loc s.store l k v w h i }
swaps loc (Pends c o) (Pends d n) h s = λ i. record s { pending = at_apart channel_test s.pending c d o n h i }
swaps loc (AddsTotals n) (AddsTotals m) h s = λ i. record s { totals = add_swap s.totals m n i }
swaps loc (Faults p f) (Faults q g) h s = absurd h
swaps loc a b h s = refl

-- each change of one list is apart from each of the other
abbrev pub ApartFrom : {L : Language} → Change L → List (Change L) → Type 0
ApartFrom a [] = Unit
ApartFrom a (b ∷ ys) = Apart a b × ApartFrom a ys

abbrev pub AllApart : {L : Language} → List (Change L) → List (Change L) → Type 0
AllApart [] ys = Unit
AllApart (a ∷ xs) ys = ApartFrom a ys × AllApart xs ys

one_later : {L : Language} → IsTest L.same_loc → (a : Change L) (ys : List (Change L)) → ApartFrom a ys → (s : State L)
    → with_changes ys (with_change a s) ≡ with_change a (with_changes ys s)
one_later loc a [] h s = refl
one_later loc a (b ∷ ys) h s = ap (with_changes ys) (sym (swaps loc a b h.0 s))
    ∙ one_later loc a ys h.1 (with_change b s)

pub after_swap : {L : Language} → IsTest L.same_loc → (xs ys : List (Change L)) → AllApart xs ys → (s : State L)
    → with_changes ys (with_changes xs s) ≡ with_changes xs (with_changes ys s)
after_swap loc [] ys h s = refl
after_swap loc (a ∷ xs) ys h s = after_swap loc xs ys h.1 (with_change a s)
    ∙ ap (with_changes xs) (one_later loc a ys h.0 s)
