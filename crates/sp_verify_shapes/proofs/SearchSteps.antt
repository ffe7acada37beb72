-- One instruction is stepped from: what is kept stays true.
use Rattle.std.proofs.Common.{◌≡◌, ◌⊎◌, ◌≢◌, inl, inr, ⊎_elim, refl, ap, sym, ◌∙◌, subst, ℕ, suc, ◌<◌, List}
use Rattle.std.proofs.Common.{[], ◌∷◌, ◌++◌, length, Option, Some, None, Bool, true, false, arith}
use Rattle.std.specs.Prelude.{slice_get, slice_set}
use Rattle.std.proofs.lemmas.List.{length-set, length_push}
use Rattle.std.proofs.lemmas.Option.{slice_get_within, none-some, same_Some}
use Rattle.std.proofs.lemmas.Bool.{cases_eq}
use Rattle.sp_base.proofs.Facts.{get_beside_set, get_where_set}
use Rattle.sp_code.specs.declared.code.Parts.{Parts}
use Rattle.sp_verify_rules.specs.Areas.{Area, instr_at}
use Rattle.sp_verify_rules.specs.Shapes.{Shape, Shaped, Wrong, To, instr_shapes}
use Rattle.sp_verify_rules.specs.Reach.{IsBrought, IsWhole, LeadsWith, Arrives}
use Rattle.sp_verify_rules.specs.NameRules.{LiesIn}
use Rattle.sp_verify_rules.specs.Rules.{ArrivesAt}
use Rattle.sp_verify_areas.specs.Only.{LiesOnlyIn}
use Rattle.sp_verify_shapes.specs.declared.stacks.Stacks.{Stacks}
use Rattle.sp_verify_shapes.specs.declared.steps.Arrival.{Arrival}
use Rattle.sp_verify_shapes.specs.declared.steps.Step.{Step}
use Rattle.sp_verify_shapes.specs.declared.steps.Step.TheVariants as step
use Rattle.sp_verify_shapes.specs.declared.search.Search.{Search}
use Rattle.sp_verify_shapes.specs.Stacks.{Extends, IsListNumber, IsStacks, list_of}
use Rattle.sp_verify_shapes.specs.Steps.{with_brought, IsStep}
use Rattle.sp_verify_shapes.specs.Search.{IsOneOf, HasAt, IsMarked, InTable, KnowsShapes, BrokenBy, LacksBy}
use Rattle.sp_verify_shapes.specs.Search.{SomeAreaBrings, IsSound, IsStepped, WhileStepping, AreStepped, IsSane}
use Rattle.sp_verify_shapes.specs.Search.{KeepsV1}
use Rattle.sp_verify_shapes.specs.Search.{TakesStepFrom, WalkOutcome, Marked, Unknown, IsWrongStep, BringsOn, WalksOne}
use Rattle.sp_verify_shapes.specs.Search.{is_set, with_arrival}
use Rattle.sp_verify_shapes.proofs.Ways.{only_in, lies}
use Rattle.sp_verify_shapes.proofs.SearchLaws.{Moves, among_last, among_left, among_or, one_list, table_covers}
use Rattle.sp_verify_shapes.proofs.SearchLaws.{closed_stays}

-- ---- what waits, and what is brought

waiting_left : (y : Arrival) (o : Option Arrival) (xs : List Arrival) → IsOneOf y xs → IsOneOf y (with_arrival o xs)
waiting_left y None xs h = h
waiting_left y (Some x) xs h = among_left y xs (x ∷ []) h

waiting_here : (y : Arrival) (o : Option Arrival) (xs : List Arrival) → o ≡ Some y → IsOneOf y (with_arrival o xs)
waiting_here y None xs e = absurd (none-some y e)
waiting_here y (Some x) xs e = subst (λ z. IsOneOf z (xs ++ x ∷ [])) (same_Some x y e) (among_last x xs)

waiting_or : (y : Arrival) (o : Option Arrival) (xs : List Arrival) → IsOneOf y (with_arrival o xs)
    → IsOneOf y xs ⊎ (o ≡ Some y)
waiting_or y None xs h = inl h
waiting_or y (Some x) xs h = ⊎_elim (λ a. inl a) (λ e. inr (ap Some (sym e))) (among_or y x xs h)

-- up to two arrivals that a step brings on
module _ (first second : Option Arrival) where
  abbrev IsEither : Arrival → Type 0
  IsEither y = (first ≡ Some y) ⊎ (second ≡ Some y)

  abbrev with_both : List Arrival → List Arrival
  with_both xs = with_arrival second (with_arrival first xs)

  new_waits : (xs : List Arrival) (y : Arrival) → IsEither y → IsOneOf y (with_both xs)
  new_waits xs y (inl e) = waiting_left y second (with_arrival first xs) (waiting_here y first xs e)
  new_waits xs y (inr e) = waiting_here y second (with_arrival first xs) e

  old_waits : (xs : List Arrival) (y : Arrival) → IsOneOf y xs → IsOneOf y (with_both xs)
  old_waits xs y h = waiting_left y second (with_arrival first xs) (waiting_left y first xs h)

  old_or_new : (xs : List Arrival) (y : Arrival) → IsOneOf y (with_both xs) → IsOneOf y xs ⊎ IsEither y
  old_or_new xs y h = ⊎_elim (λ a. ⊎_elim (λ b. inl b) (λ e. inr (inl e)) (waiting_or y first xs a))
      (λ e. inr (inr e)) (waiting_or y second (with_arrival first xs) h)

module _ (st : Stacks) where
  is_brought : (first second : Option Arrival) (y : Arrival) → IsEither first second y
      → IsBrought y.at (list_of st y.list) (with_brought st first (with_brought st second []))
  is_brought None None y (inl e) = none-some y e
  is_brought None None y (inr e) = none-some y e
  is_brought None (Some x) y (inl e) = absurd (none-some y e)
  is_brought None (Some x) y (inr e) = let z = same_Some x y e in
      inl (ap (λ (u : Arrival). u.at) (sym z), ap (λ (u : Arrival). list_of st u.list) (sym z))
  is_brought (Some x) second y (inl e) = let z = same_Some x y e in
      inl (ap (λ (u : Arrival). u.at) (sym z), ap (λ (u : Arrival). list_of st u.list) (sym z))
  is_brought (Some x) None y (inr e) = absurd (none-some y e)
  is_brought (Some x) (Some w) y (inr e) = let z = same_Some w y e in
      inr (inl (ap (λ (u : Arrival). u.at) (sym z), ap (λ (u : Arrival). list_of st u.list) (sym z)))

  brought_is : (first second : Option Arrival) (q : ℕ) (ts : List Shape)
      → IsBrought q ts (with_brought st first (with_brought st second []))
      → (y : Arrival) × IsEither first second y × (y.at ≡ q) × (list_of st y.list ≡ ts)
  brought_is None None q ts h = absurd h
  brought_is None (Some x) q ts (inl e) = (x, inr refl, sym e.0, sym e.1)
  brought_is None (Some x) q ts (inr h) = absurd h
  brought_is (Some x) second q ts (inl e) = (x, inl refl, sym e.0, sym e.1)
  brought_is (Some x) None q ts (inr h) = absurd h
  brought_is (Some x) (Some w) q ts (inr (inl e)) = (w, inr refl, sym e.0, sym e.1)
  brought_is (Some x) (Some w) q ts (inr (inr h)) = absurd h

-- ---- one instruction, the last one that waits, is stepped from

module _ (c : Parts) (v1 : KeepsV1 c) (n : ℕ) (s : Search) (rest : List ℕ) (p : ℕ) (last : s.frontier ≡ rest ++ p ∷ [])
    (h : WhileStepping c n s) where
  -- the same search, where p waits no longer
  abbrev left : Search
  left = record s { frontier = rest }

  -- and with other lists of shapes, marks and arrivals
  abbrev left_with : Stacks → List Bool → List Arrival → Search
  left_with st broken arrivals = record s { stacks = st; broken = broken; frontier = rest; arrivals = arrivals }

  waits_or_is_p : (q : ℕ) → IsOneOf q s.frontier → IsOneOf q rest ⊎ (q ≡ p)
  waits_or_is_p q a = among_or q p rest (subst (IsOneOf q) last a)

  -- p waits no longer where it has a mark, no list, or is stepped from
  steps_moved : (new : Search) → new.frontier ≡ rest → Moves s new → ((q k : ℕ) → HasAt new q k → HasAt s q k)
      → ((k : ℕ) → HasAt s p k → IsMarked new p ⊎ IsStepped c new p (list_of new.stacks k)) → IsSound c n (suc n) new
      → WhileStepping c n new
  steps_moved new frontier_is moves fresh seen sound = record {
    sound = sound;
    closed = closed_stays s new h.sound.held moves h.sound.carried c h.closed (λ q k w. inl (fresh q k w))
        (λ q k o f. closed q k o (waits_or_is_p q f));
    covers = table_covers s new h.sound.held moves h.sound.carried c n h.covers;
  }
    where
      closed : (q k : ℕ) → HasAt s q k → IsOneOf q rest ⊎ (q ≡ p)
          → IsMarked new q ⊎ (IsOneOf q new.frontier ⊎ IsStepped c new q (list_of new.stacks k))
      closed q k o (inl a) = inr (inl (subst (IsOneOf q) (sym frontier_is) a))
      closed q k o (inr e) = subst
          (λ z. IsMarked new z ⊎ (IsOneOf z new.frontier ⊎ IsStepped c new z (list_of new.stacks k))) (sym e)
          (⊎_elim (λ m. inl m) (λ z. inr (inr z)) (seen k (subst (λ z. HasAt s z k) e o)))

  -- what waits to be compared is as before, or comes by one step more
  abbrev IsOldOrNew : Stacks → Arrival → Type 0
  IsOldOrNew st y = IsOneOf y s.arrivals ⊎ (IsListNumber st y.list × SomeAreaBrings c (suc n) y.at (list_of st y.list))

  -- lists are only added, so what they were known to be stays true
  sound_with : (st : Stacks) (broken : List Bool) (arrivals : List Arrival) → IsStacks st → Extends s.stacks st
      → length broken ≡ length c.instrs → ((q : ℕ) → slice_get broken q ≡ Some true → BrokenBy c n q)
      → ((y : Arrival) → IsOneOf y arrivals → IsOldOrNew st y) → IsSound c n (suc n) (left_with st broken arrivals)
  sound_with st broken arrivals stacks extends marks marked arrives = record {
    stacks = stacks;
    size = h.sound.size;
    marks = marks;
    held = λ q j w. (extends j (h.sound.held q j w)).0;
    come = λ q j w. subst (SomeAreaBrings c n q) (sym (extends j (h.sound.held q j w)).1) (h.sound.come q j w);
    marked = marked;
    carried = λ y a. list_number y (arrives y a);
    arrive = λ y a. brings y (arrives y a);
  }
    where
      list_number : (y : Arrival) → IsOldOrNew st y → IsListNumber st y.list
      list_number y (inl a) = (extends y.list (h.sound.carried y a)).0
      list_number y (inr (number, _)) = number

      brings : (y : Arrival) → IsOldOrNew st y → SomeAreaBrings c (suc n) y.at (list_of st y.list)
      brings y (inl a) = subst (SomeAreaBrings c (suc n) y.at) (sym (extends y.list (h.sound.carried y a)).1)
          (h.sound.arrive y a)
      brings y (inr (_, brought)) = brought

  -- nothing is found where p has a mark or no list
  only_rest : ((k : ℕ) → HasAt s p k → IsMarked s p) → WhileStepping c n left
  only_rest seen = steps_moved left refl
      (record { extends = λ m w. (w, refl); stays = λ q k w. w; more = λ q w. w; waits = λ y a w. inl a })
      (λ q k w. w) (λ k w. inl (seen k w))
      (sound_with s.stacks s.broken s.arrivals h.sound.stacks (λ m w. (w, refl)) h.sound.marks h.sound.marked
      (λ y a. inl a))

  -- all that arrives at p is the list that came first
  only_list : (k : ℕ) → HasAt s p k → (IsMarked s p → ⊥) → (a : Area) (ts : List Shape) → ArrivesAt c a n p ts
      → ts ≡ list_of s.stacks k
  only_list k has unmarked a ts w = in_table (h.covers a p ts w)
    where
      in_table : InTable s p ts → ts ≡ list_of s.stacks k
      in_table (j, too, inl e) = sym e ∙ ap (list_of s.stacks) (one_list s p j k too has)
      in_table (j, too, inr m) = absurd (unmarked m)

  -- ---- the instruction lacks something: p gets a mark

  module _ (k : ℕ) (st : Stacks) (taken : TakesStepFrom c left p k st step.Wrong) where
    within : p < length s.broken
    within = let l = slice_get_within s.at p (Some k) taken.has in let a = h.sound.size in let b = h.sound.marks in
        omega (arith, l, a, b)

    abbrev marked_p : List Bool
    marked_p = slice_set s.broken p true

    marks_stay : (q : ℕ) → IsMarked s q → slice_get marked_p q ≡ Some true
    marks_stay q m = ⊎_elim (λ (z : p ≡ q). ap (slice_get marked_p) (sym z) ∙ get_where_set s.broken p true within)
        (λ (d : p ≢ q). get_beside_set s.broken p q true d ∙ m) (cases_eq p q)

    lacks : BrokenBy c n p
    lacks =
        let (area, comes) = h.sound.come p k taken.has in
        let lies_there = lies c area n p (list_of s.stacks k) comes in
        LacksBy area (list_of s.stacks k) comes (sym (taken.goes area (only_in c v1 p area lies_there)).shaped_is)

    marks_are_right : (q : ℕ) → slice_get marked_p q ≡ Some true → BrokenBy c n q
    marks_are_right q m = ⊎_elim (λ (z : p ≡ q). subst (BrokenBy c n) z lacks)
        (λ (d : p ≢ q). h.sound.marked q (sym (get_beside_set s.broken p q true d) ∙ m)) (cases_eq p q)

    with_mark : WhileStepping c n (left_with st marked_p s.arrivals)
    with_mark = steps_moved (left_with st marked_p s.arrivals) refl
        (record { extends = taken.extends; stays = λ q j w. w; more = marks_stay; waits = λ y a w. inl a })
        (λ q j w. w) (λ j w. inl (get_where_set s.broken p true within))
        (sound_with st marked_p s.arrivals taken.stacks taken.extends (length-set s.broken p true ∙ h.sound.marks)
        marks_are_right (λ y a. inl a))

  -- ---- the instruction brings lists on

  module _ (k : ℕ) (st : Stacks) (first second : Option Arrival)
      (taken : TakesStepFrom c left p k st (step.To first second)) where
    abbrev shapes : List Shape
    shapes = list_of s.stacks k

    abbrev with_lists : Search
    with_lists = left_with st s.broken (with_both first second s.arrivals)

    shapes_are : (a : Area) → LiesIn c p a
        → To (with_brought st first (with_brought st second [])) ≡ instr_shapes c a (instr_at c p) p shapes
    shapes_are a l = (taken.goes a (only_in c v1 p a l)).shaped_is

    is_not_wrong : (a : Area) → LiesIn c p a → instr_shapes c a (instr_at c p) p shapes ≢ Wrong
    is_not_wrong a l e = let z = shapes_are a l ∙ e in cc z

    is_shapes : (a : Area) (ts : List Shape) → ArrivesAt c a n p ts → ts ≡ shapes
    is_shapes = only_list k taken.has taken.unmarked

    is_whole : (a : Area) → ArrivesAt c a n p shapes → IsWhole c a (Arrives c a n) p
    is_whole a (there, arrives) = (
      λ us vs x y. is_shapes a us (there, x) ∙ sym (is_shapes a vs (there, y)),
      λ us x. subst (λ (z : List Shape). instr_shapes c a (instr_at c p) p z ≢ Wrong)
          (sym (is_shapes a us (there, x))) (is_not_wrong a (lies c a n p shapes (there, arrives))),
    )

    -- what is brought on has a list, and arrives by one step more
    brought_on : (y : Arrival) → IsEither first second y
        → IsListNumber st y.list × SomeAreaBrings c (suc n) y.at (list_of st y.list)
    brought_on y b =
        let (area, comes) = h.sound.come p k taken.has in
        let (there, arrives) = comes in
        let l = lies c area n p shapes comes in
        let leads = subst (λ (o : Shaped). LeadsWith o y.at (list_of st y.list)) (shapes_are area l)
        (is_brought st first second y b) in (
          (taken.goes area (only_in c v1 p area l)).held y b,
          (area, (there, inr (p, shapes, arrives, is_whole area comes, leads))),
        )

    stepped : (j : ℕ) → HasAt s p j → IsStepped c with_lists p (list_of st j)
    stepped j w = subst (IsStepped c with_lists p) (sym (taken.extends k (h.sound.held p k taken.has)).1
        ∙ ap (list_of st) (one_list s p k j taken.has w))
        (λ a l. (
          is_not_wrong a l,
          λ q ts b. known q ts
              (brought_is st first second q ts (subst (λ (o : Shaped). LeadsWith o q ts) (sym (shapes_are a l)) b)),
        ))
      where
        known : (q : ℕ) (ts : List Shape)
            → ((y : Arrival) × IsEither first second y × (y.at ≡ q) × (list_of st y.list ≡ ts))
            → KnowsShapes with_lists q ts
        known q ts (y, b, e, i) = inr (y, new_waits first second s.arrivals y b, e, i)

    goes_on : WhileStepping c n with_lists
    goes_on = steps_moved with_lists refl
        (record {
          extends = taken.extends;
          stays = λ q j w. w;
          more = λ q w. w;
          waits = λ y a w. inl (old_waits first second s.arrivals y a);
        })
        (λ q j w. w) (λ j w. inr (stepped j w))
        (sound_with st s.broken (with_both first second s.arrivals) taken.stacks taken.extends h.sound.marks
        h.sound.marked
        (λ y a. ⊎_elim (λ b. inl b) (λ b. inr (brought_on y b)) (old_or_new first second s.arrivals y a)))

  pub step_keeps : (new : Search) → WalkOutcome c left new p → WhileStepping c n new
  step_keeps new (Marked m q) = subst (WhileStepping c n) (sym q) (only_rest (λ k w. m))
  step_keeps new (Unknown f q) = subst (WhileStepping c n) (sym q) (only_rest (λ k w. absurd (f k w)))
  step_keeps new (IsWrongStep k st taken q) = subst (WhileStepping c n) (sym q) (with_mark k st taken)
  step_keeps new (BringsOn k st first second taken q) = subst (WhileStepping c n) (sym q)
      (goes_on k st first second taken)

-- ---- one after the other

-- whatever is found at p, only p is taken from those that wait, and no list is put at an instruction
left_of : (c : Parts) (s new : Search) (rest : List ℕ) (p : ℕ) → WalkOutcome c (record s { frontier = rest }) new p
    → (new.frontier ≡ rest) × (new.at ≡ s.at)
left_of c s new rest p (Marked m q) = (ap (λ (z : Search). z.frontier) q, ap (λ (z : Search). z.at) q)
left_of c s new rest p (Unknown f q) = (ap (λ (z : Search). z.frontier) q, ap (λ (z : Search). z.at) q)
left_of c s new rest p (IsWrongStep k st taken q) = (ap (λ (z : Search). z.frontier) q, ap (λ (z : Search). z.at) q)
left_of c s new rest p (BringsOn k st first second taken q) =
    (ap (λ (z : Search). z.frontier) q, ap (λ (z : Search). z.at) q)

module _ (c : Parts) (v1 : KeepsV1 c) (s : Search) (rest : List ℕ) (p : ℕ) (last : s.frontier ≡ rest ++ p ∷ [])
    (h : AreStepped c s) where
  pub walks_one : (new : Search) → WalkOutcome c (record s { frontier = rest }) new p → WalksOne c s new
  walks_one new outcome =
      let (frontier_is, position_is) = left_of c s new rest p outcome in
      record {
        stepped = (h.0, step_keeps c v1 h.0 s rest p last h.1 new outcome);
        less = (let a = ap length last in let b = length_push rest p in let d = ap length frontier_is in
            omega (arith, a, b, d));
        position_is = position_is;
      }

  pub sane : IsSane c (record s { frontier = rest })
  sane = record { stacks = h.1.sound.stacks; size = h.1.sound.size; held = h.1.sound.held }

-- ---- what a step gives

not_set : (o : Option Bool) → is_set o ≡ false → o ≡ Some true → ⊥
not_set o e f = let z = sym e ∙ ap is_set f in cc z

module _ (c : Parts) (s : Search) (p k : ℕ) (st : Stacks) (found : Option (Option ℕ)) (has : found ≡ slice_get s.at p)
    (is : found ≡ Some (Some k)) (unset : is_set (slice_get s.broken p) ≡ false) (stacks : IsStacks st)
    (extends : Extends s.stacks st)
    (o : Step) (goes : (a : Area) → LiesOnlyIn c p a
    → IsStep st o (instr_shapes c a (instr_at c p) p (list_of s.stacks k)))
  where
    takes_step : (e : Step) → o ≡ e → TakesStepFrom c s p k st e
    takes_step e q = record {
      has = sym has ∙ is;
      unmarked = λ m. not_set (slice_get s.broken p) unset m;
      stacks = stacks;
      extends = extends;
      goes = subst (λ (z : Step). (a : Area) → LiesOnlyIn c p a
          → IsStep st z (instr_shapes c a (instr_at c p) p (list_of s.stacks k))) q goes;
    }

    pub lacks_operands : (broken : List Bool) → o ≡ step.Wrong → broken ≡ slice_set s.broken p true
        → WalkOutcome c s (record s { stacks = st; broken = broken }) p
    lacks_operands broken q e = IsWrongStep k st (takes_step step.Wrong q)
        (ap (λ (b : List Bool). record s { stacks = st; broken = b }) e)

    pub brings_lists : (first second : Option Arrival) (xs ys : List Arrival) → o ≡ step.To first second
        → xs ≡ with_arrival first s.arrivals → ys ≡ with_arrival second xs
        → WalkOutcome c s (record s { stacks = st; arrivals = ys }) p
    brings_lists first second xs ys q e d = BringsOn k st first second (takes_step (step.To first second) q)
        (ap (λ (z : List Arrival). record s { stacks = st; arrivals = z }) (d ∙ ap (with_arrival second) e))
