-- The test of the order condition is right, both ways.
use Rattle.std.proofs.Common.{◌≡◌, ℕ, suc, zero, ◌+◌, Bool, true, false, if◌then◌else◌, List, [], ◌∷◌, ◌++◌, length}
use Rattle.std.proofs.Common.{slice_get, Option, Some, None, refl, sym, ap, ◌∙◌, subst, add-zero, zero-add}
use Rattle.std.proofs.lemmas.Bool.{and_from}
use Rattle.std.proofs.lemmas.Option.{none-some, same_Some}
use Rattle.sp_base.proofs.Facts.{first_true, is_none_plus, is_plus_none, next_goes_left, next_goes_right, second_true}
use Rattle.sp_journal.specs.declared.entry.Way.{Way}
use Rattle.sp_journal.specs.Names.{Name, Channel, Happening, Offered}
use Rattle.sp_journal.specs.Names.{Occurrence}
use Rattle.sp_journal.specs.Past.{Knowledge, knowledge_after, no_knowledge, KnowsCompletions, CompletedFrom, AreOrdered}
use Rattle.sp_meaning.proofs.Maps.{itself}
use Rattle.sp_meaning.proofs.Keys.{channel_test}
use Rattle.sp_race.specs.OrderTest.{is_offer, is_known, knows_all, is_in_order, order_from, order_test}
use Rattle.sp_race.proofs.Ways.{way_itself, way_is}

known_is : (j : Knowledge) (p : Name) (o : Option ℕ) → is_known j p o ≡ true → (m : ℕ) × (o ≡ Some m)
    × (j.past p m ≡ true)
known_is j p None h = absurd (cc h)
known_is j p (Some m) h = (m, refl, h)

-- from the test to the condition

all_known : (j : Knowledge) (p : Name) (w : Way) (c : Channel) (k : ℕ) (es : List Occurrence)
    → knows_all j p w c k es ≡ true → (i : ℕ) (z : Name)
    → slice_get es i ≡ Some (record { who = z; what = Offered w c }) → (m : ℕ) × (j.completed (k + i) ≡ Some m)
    × (j.past p m ≡ true)
all_known j p w c k [] h i z e = absurd (none-some _ e)
all_known j p w c k (x ∷ es) h zero z e =
    let is : x.what ≡ Offered w c = ap (λ (y : Occurrence). y.what) (same_Some _ _ e) in
    let head : (if is_offer w c x.what then is_known j p (j.completed k) else true) ≡ true = first_true _ _ h in
    let here : is_offer w c x.what ≡ true = ap (is_offer w c) is
    ∙ and_from _ _ (way_itself w) (itself channel_test c) in
    let known : is_known j p (j.completed k) ≡ true =
    subst (λ b. (if b then is_known j p (j.completed k) else true) ≡ true) here head in
    let m = known_is j p (j.completed k) known in
    (m.0, ap j.completed (add-zero k) ∙ m.1, m.2)
all_known j p w c k (x ∷ es) h (suc i) z e =
    let m = all_known j p w c (suc k) es (second_true _ _ h) i z e in
    (m.0, ap j.completed (next_goes_left k i) ∙ m.1, m.2)

in_order : (j : Knowledge) (done : List Occurrence) (p : Name) (h : Happening) → is_in_order j done p h ≡ true
    → KnowsCompletions j done p h
in_order j done p (Offered w c) t = λ i z e. let m = all_known j p w c 0 done t i z e in
    (m.0, ap j.completed (is_none_plus i) ∙ m.1, m.2)
in_order _ _ _ _ _ = tt

completed_from : (j : Knowledge) (done es : List Occurrence) → order_from j done es ≡ true → CompletedFrom j done es
completed_from j done [] h = tt
completed_from j done (e ∷ es) h = (
  in_order j done e.who e.what (first_true _ _ h),
  completed_from (knowledge_after j (length done) e.who e.what) (done ++ e ∷ []) es (second_true _ _ h),
)

pub test_ordered : (es : List Occurrence) → order_test es ≡ true → AreOrdered es
test_ordered es h = completed_from no_knowledge [] es h

-- from the condition to the test

knows_offer : (j : Knowledge) (p : Name) (o : Option ℕ) (m : ℕ) → o ≡ Some m → j.past p m ≡ true → is_known j p o ≡ true
knows_offer j p o m e h = ap (is_known j p) e ∙ h

if_true : (b x : Bool) → (b ≡ true → x ≡ true) → (if b then x else true) ≡ true
if_true true x h = h refl
if_true false x h = refl

offer_is : (w : Way) (c : Channel) (h : Happening) → is_offer w c h ≡ true → h ≡ Offered w c
offer_is w c (Offered v d) h = λ i. Offered (sym (way_is w v (first_true _ _ h)) i)
    (sym ((channel_test c d).0 (second_true _ _ h)) i)
offer_is _ _ _ h = absurd (cc h)

known_all : (j : Knowledge) (p : Name) (w : Way) (c : Channel) (k : ℕ) (es : List Occurrence)
    → ((i : ℕ) (z : Name) → slice_get es i ≡ Some (record { who = z; what = Offered w c }) → (m : ℕ)
    × (j.completed (k + i) ≡ Some m) × (j.past p m ≡ true)) → knows_all j p w c k es ≡ true
known_all j p w c k [] h = refl
known_all j p w c k (x ∷ es) h = and_from _ _
    (if_true (is_offer w c x.what) (is_known j p (j.completed k)) (λ e.
    let m = h 0 x.who (λ i. Some (record { who = x.who; what = offer_is w c x.what e i })) in
    knows_offer j p (j.completed k) m.0 (ap j.completed (is_plus_none k) ∙ m.1) m.2))
    (known_all j p w c (suc k) es (λ i z e. let m = h (suc i) z e in
    (m.0, ap j.completed (next_goes_right k i) ∙ m.1, m.2)))

order_in : (j : Knowledge) (done : List Occurrence) (p : Name) (h : Happening) → KnowsCompletions j done p h
    → is_in_order j done p h ≡ true
order_in j done p (Offered w c) t = known_all j p w c 0 done
    (λ i z e. let m = t i z e in (m.0, ap j.completed (zero-add i) ∙ m.1, m.2))
order_in _ _ _ _ _ = refl

from_completed : (j : Knowledge) (done es : List Occurrence) → CompletedFrom j done es → order_from j done es ≡ true
from_completed j done [] h = refl
from_completed j done (e ∷ es) h = and_from _ _ (order_in j done e.who e.what h.0)
    (from_completed (knowledge_after j (length done) e.who e.what) (done ++ e ∷ []) es h.1)

pub ordered_test : (es : List Occurrence) → AreOrdered es → order_test es ≡ true
ordered_test es h = from_completed no_knowledge [] es h
