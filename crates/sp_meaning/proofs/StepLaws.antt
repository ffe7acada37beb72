-- What every step keeps: names, counts of forks, light items; and ticks never fall.
use Rattle.std.proofs.Common.{◌≡◌, ◌≢◌, ◌⊎◌, inl, inr, ℕ, suc, ◌+◌, ◌≤◌, ◌==◌, Bool, true, false, cond, List, [], ◌∷◌}
use Rattle.std.proofs.Common.{length, Option, Some, None, refl, sym, ap, ◌∙◌, subst, arith, if◌then◌else◌, le_refl}
use Rattle.sp_base.specs.declared.fault.Fault.{Fault}
use Rattle.sp_base.specs.declared.fault.Fault.TheVariants as fault
use Rattle.sp_tree.specs.Plain.{Block}
use Rattle.sp_meaning.specs.Maps.{at_key}
use Rattle.sp_meaning.specs.Model.{Name, same_name, Language, Act, Moves, Opens, Forks, Offering, EndsProcess}
use Rattle.sp_meaning.specs.Model.{MeetsFault}
use Rattle.sp_meaning.specs.Model.{Condition, Absent, Works, Waits, Joins, Ended, Becomes, Forked, WritesLocation}
use Rattle.sp_meaning.specs.Model.{AddsTotals}
use Rattle.sp_meaning.specs.Model.{with_change, with_changes}
use Rattle.sp_meaning.specs.EffectTree.{EffectTree, Leaf, ReadThen, WriteThen, run_tree, tree_writes}
use Rattle.sp_meaning.specs.Steps.{ActOf, OfferOf, ConditionOf, own_part, own_part_in, all_ended, ActOutcome, Advances}
use Rattle.sp_meaning.specs.Steps.{Faulty, write_changes, birth_changes, message, meeting_changes, handover_outcome}
use Rattle.sp_meaning.specs.Steps.{meeting_outcome, offer_outcome, act_outcome, limit_fault, cost}
use Rattle.sp_meaning.specs.Steps.{fault_or, step_outcome, result_of, step_with, Sound}
use Rattle.sp_meaning.specs.LocalWork.{RunInput, Loc, LocationContent, Address, LocalState, Identity, Break, Process}
use Rattle.sp_meaning.specs.LocalWork.{WorkOutcome, Computed, EndsInFault, IllFormed, OutOfFuel}
use Rattle.sp_meaning.specs.LocalWork.{same_loc}
use Rattle.sp_meaning.specs.Actions.{Birth, Action, Stepped, Ticked, Opened, Forked as Forked_it, Offered, push}
use Rattle.sp_meaning.specs.Actions.{new_processes}
use Rattle.sp_meaning.specs.Actions.{size_of_frame}
use Rattle.sp_meaning.specs.Actions as actions
use Rattle.std.specs.Prelude.{nat_lt}
use Rattle.std.proofs.lemmas.Option.{same_Some}
use Rattle.sp_meaning.specs.SuperPascal.{superpascal, act_tree, action_of, act_of, weight_of, weight_blocks, main_items}
use Rattle.sp_meaning.specs.Runs.{StateOf, start, total_limits, next_state, Lawful}
use Rattle.sp_meaning.specs.Along.{ticks_in}
use Rattle.sp_meaning.specs.Laws.{HasIdentity, OwnIs, IsReached}
use Rattle.sp_meaning.proofs.Sound.{step_sound}
use Rattle.sp_meaning.proofs.Maps.{at_other}
use Rattle.sp_meaning.proofs.Keys.{name_test}
use Rattle.sp_meaning.proofs.EffectTree.{answer_then}
use Rattle.sp_meaning.proofs.Instance.{loc_test}
use Rattle.sp_meaning.proofs.Enough.{EndsInTicks}
use Rattle.sp_meaning.proofs.EnoughSteps.{ActionFalls, enough_is}
use Rattle.sp_meaning.proofs.Weights.{AreLight, AllBorn, weights, push_fit}

-- what an answer is of a tree that comes to its end
abbrev pub Result : {A : Type 0} → ℕ → (A → LocalState → Type 0) → WorkOutcome A → Type 0
Result t F (Computed a o) = (t ≤ o.ticks) × F a o
Result t F (EndsInFault f) = Unit {0}
Result t F IllFormed = Unit {0}
Result t F OutOfFuel = ⊥

pub result_is : {A : Type 0} (t : ℕ) (F : A → LocalState → Type 0) (x : EffectTree Loc LocationContent (WorkOutcome A))
    (m : Loc → LocationContent)
    → EndsInTicks t F x → Result t F (run_tree same_loc x m).0
result_is t F (Leaf (Computed a o)) m h = h
result_is t F (Leaf (EndsInFault f)) m h = tt
result_is t F (Leaf IllFormed) m h = tt
result_is t F (Leaf OutOfFuel) m h = h
result_is t F (ReadThen l more) m h = result_is t F (more (m l)) m (h (m l))
result_is t F (WriteThen l v more) m h = result_is t F more (at_key same_loc l v m) h

abbrev pub Conditions : Type 0
Conditions = Name → Condition Process LocationContent Address

module _ (k : ℕ) where
  -- a process with its name, its count of forks, light items, and no fewer ticks than t
  pub record ProcessKeeps (t f : ℕ) (q : Name) (pr : Process) : Type 0 where
    pub named : HasIdentity q f pr
    pub light : AreLight k pr.todo
    pub later : t ≤ pr.own.ticks

  abbrev pub ConditionKeeps : ℕ → ℕ → Name → Condition Process LocationContent Address → Type 0
  ConditionKeeps t f q Absent = (f ≡ 0) × (t ≤ 0)
  ConditionKeeps t f q (Works pr) = ProcessKeeps t f q pr
  ConditionKeeps t f q (Waits o) = ProcessKeeps t f q o.next
  ConditionKeeps t f q (Joins m n pr) = ProcessKeeps t f q pr
  ConditionKeeps t f q Ended = Unit {0}

  -- of every process, with ticks since then
  abbrev pub Inv : (Name → ℕ) → Conditions → (Name → ℕ) → Type 0
  Inv t c f = (q : Name) → ConditionKeeps (t q) (f q) q (c q)

  pub becomes : (t : Name → ℕ) (c : Conditions) (f : Name → ℕ) (q : Name)
      (x : Condition Process LocationContent Address)
      → Inv t c f → ConditionKeeps (t q) (f q) q x → Inv t (at_key same_name q x c) f
  becomes t c f q x i h r = go (same_name q r) refl
    where
      go : (b : Bool) → same_name q r ≡ b → ConditionKeeps (t r) (f r) r (cond b x (c r))
      go true e = subst (λ z. ConditionKeeps (t z) (f z) z x) ((name_test q r).0 e) h
      go false e = i r

  raise : (t f : ℕ) (q : Name) (x : Condition Process LocationContent Address) → ConditionKeeps t f q x
      → ConditionKeeps (ticks_in x) f q x
  raise t f q Absent h = (h.0, le_refl 0)
  raise t f q (Works pr) h = record { named = h.named; light = h.light; later = le_refl _ }
  raise t f q (Waits o) h = record { named = h.named; light = h.light; later = le_refl _ }
  raise t f q (Joins m n pr) h = record { named = h.named; light = h.light; later = le_refl _ }
  raise t f q Ended h = tt

  lower : (t f : ℕ) (q : Name) (x : Condition Process LocationContent Address) → ConditionKeeps t f q x
      → ConditionKeeps 0 f q x
  lower t f q Absent h = (h.0, le_refl 0)
  lower t f q (Works pr) h = record { named = h.named; light = h.light; later = omega arith }
  lower t f q (Waits o) h = record { named = h.named; light = h.light; later = omega arith }
  lower t f q (Joins m n pr) h = record { named = h.named; light = h.light; later = omega arith }
  lower t f q Ended h = tt

  pub risen : (t f : ℕ) (q : Name) (x : Condition Process LocationContent Address) → ConditionKeeps t f q x
      → (x ≡ Ended) ⊎ (t ≤ ticks_in x)
  risen t f q Absent h = inr h.1
  risen t f q (Works pr) h = inr h.later
  risen t f q (Waits o) h = inr h.later
  risen t f q (Joins m n pr) h = inr h.later
  risen t f q Ended h = inl refl

  pub own_is : (t f : ℕ) (q : Name) (x : Condition Process LocationContent Address) → ConditionKeeps t f q x
      → OwnIs q f x
  own_is t f q Absent h = h.0
  own_is t f q (Works pr) h = h.named
  own_is t f q (Waits o) h = h.named
  own_is t f q (Joins m n pr) h = h.named
  own_is t f q Ended h = tt

  pub working_keeps : (c : Conditions) (t f : ℕ) (q : Name) (x : Condition Process LocationContent Address)
      (pr : Process)
      → ConditionKeeps t f q x → own_part_in c q x ≡ Some pr → ProcessKeeps t f q pr
  working_keeps c t f q Absent pr h e = absurd (cc e)
  working_keeps c t f q (Works o) pr h e = let d : o ≡ pr = same_Some _ _ e in subst (ProcessKeeps t f q) d h
  working_keeps c t f q (Waits o) pr h e = absurd (cc e)
  working_keeps c t f q (Joins m n o) pr h e = go (all_ended c q m n) e
    where
      go : (b : Bool) → (if b then Some o else None) ≡ Some pr → ProcessKeeps t f q pr
      go true e = let d : o ≡ pr = cc e in subst (ProcessKeeps t f q) d h
      go false e = absurd (cc e)
  working_keeps c t f q Ended pr h e = absurd (cc e)

  -- what an act makes of its process and its children
  abbrev pub Children : Name → ℕ → ℕ → List Process → Type 0
  Children p m i [] = Unit {0}
  Children p m i (o ∷ os) = ProcessKeeps 0 0 ((m, i) ∷ p) o × Children p m (suc i) os

  abbrev pub ActsWell : ℕ → ℕ → Name → Act Process Loc LocationContent Address → Type 0
  ActsWell t f p (Moves o ws) = ProcessKeeps t f p o
  ActsWell t f p (Opens o ws) = ProcessKeeps t f p o
  ActsWell t f p (Forks o os) = ProcessKeeps t (f + 1) p o × Children p f 0 os
  ActsWell t f p (Offering o) = ProcessKeeps t f p o.next
  ActsWell t f p EndsProcess = Unit {0}
  ActsWell t f p (MeetsFault x) = Unit {0}

  born_well : (f : ℕ) (p : Name) (w : Identity) (o : LocalState) → w.name ≡ p → w.forks ≡ f → (i : ℕ) (bs : List Birth)
      → AllBorn k bs → Children p f i (new_processes w o i bs)
  born_well f p w o n m i [] h = tt
  born_well f p w o n m i (b ∷ bs) h = (
    record
        { named = record { name = λ z. (m z, i) ∷ n z; forks_are = refl }; light = h.0; later = le_refl 0 },
    born_well f p w o n m (suc i) bs h.1,
  )

-- the process's own step
module _ (g : RunInput) where
  abbrev pub K : ℕ
  K = weight_of g.program

  abbrev L : Language
  L = superpascal g

  abbrev pub Light : ℕ → ℕ → Name → Process → Type 0
  Light t f p pr = ProcessKeeps K t f p pr

  well_by : (t f : ℕ) (p : Name) (pr : Process) (ws : List (Loc × LocationContent)) → Light t f p pr
      → (r : WorkOutcome Action)
      → Result pr.own.ticks (ActionFalls g K pr.own.ticks (weights pr.todo)) r → ActsWell K t f p (act_of pr.who r ws)
  well_by t f p pr ws h (Computed (Stepped todo) o) (is_later, (_, light)) =
      record {
        named = record { name = h.named.name; forks_are = h.named.forks_are };
        light = light;
        later = omega (arith, h.later, is_later);
      }
  well_by t f p pr ws h (Computed (Ticked todo) o) (is_later, (_, light)) =
      record {
        named = record { name = h.named.name; forks_are = h.named.forks_are };
        light = light;
        later = omega (arith, h.later, is_later);
      }
  well_by t f p pr ws h (Computed (Opened todo) o) (is_later, light) =
      record {
        named = record { name = h.named.name; forks_are = h.named.forks_are };
        light = light;
        later = omega (arith, h.later, is_later);
      }
  well_by t f p pr ws h (Computed (Forked_it bs todo) o) (is_later, (born, light)) = (
    record {
      named = record { name = h.named.name; forks_are = ap (λ n. n + 1) h.named.forks_are };
      light = light;
      later = omega (arith, h.later, is_later);
    },
    born_well K f p pr.who o h.named.name h.named.forks_are 0 bs born,
  )
  well_by t f p pr ws h (Computed (Offered c n payload todo) o) (is_later, light) =
      record {
        named = record { name = h.named.name; forks_are = h.named.forks_are };
        light = light;
        later = omega (arith, h.later, is_later);
      }
  well_by t f p pr ws h (Computed actions.Ended o) x = tt
  well_by t f p pr ws h (EndsInFault e) x = tt
  well_by t f p pr ws h IllFormed x = tt
  well_by t f p pr ws h OutOfFuel x = tt

  -- a step comes to an answer, and never to OutOfFuel
  pub action_is : (pr : Process) (m : Loc → LocationContent) → AreLight K pr.todo
      → Result pr.own.ticks (ActionFalls g K pr.own.ticks (weights pr.todo)) (run_tree same_loc (action_of g pr) m).0
  action_is pr m light = result_is pr.own.ticks (ActionFalls g K pr.own.ticks (weights pr.todo)) (action_of g pr) m
      (enough_is g pr.todo pr.who pr.own light)

  pub next_is : (pr : Process) (m : Loc → LocationContent)
      → L.next pr m ≡ act_of pr.who (run_tree same_loc (action_of g pr) m).0 (tree_writes same_loc (act_tree g pr) m)
  next_is pr m = ap (λ (x : (List (Loc × LocationContent) → ActOf L) × (Loc → LocationContent)). x.0
      (tree_writes same_loc (act_tree g pr) m))
      (answer_then loc_test (action_of g pr) (λ x. Leaf (act_of pr.who x)) m)

  pub acts_well : (t f : ℕ) (p : Name) (pr : Process) (m : Loc → LocationContent) → Light t f p pr
      → ActsWell K t f p (L.next pr m)
  acts_well t f p pr m h = subst (ActsWell K t f p) (sym (next_is pr m))
      (well_by t f p pr (tree_writes same_loc (act_tree g pr) m) h (run_tree same_loc (action_of g pr) m).0
      (action_is pr m h.light))

  puts_condition : (ws : List (Loc × LocationContent)) (s : StateOf g)
      → (with_changes (write_changes {L = L} ws) s).condition ≡ s.condition
  puts_condition [] s = refl
  puts_condition (w ∷ ws) s = puts_condition ws (with_change (WritesLocation w.0 w.1) s)

  puts_forks : (ws : List (Loc × LocationContent)) (s : StateOf g) → (with_changes (write_changes {L = L} ws) s).forks
      ≡ s.forks
  puts_forks [] s = refl
  puts_forks (w ∷ ws) s = puts_forks ws (with_change (WritesLocation w.0 w.1) s)

  abbrev Well : (Name → ℕ) → StateOf g → Type 0
  Well t s = Inv K t s.condition s.forks

  puts_well : (t : Name → ℕ) (ws : List (Loc × LocationContent)) (s : StateOf g) → Well t s
      → Well t (with_changes (write_changes {L = L} ws) s)
  puts_well t ws s h = subst (λ (z : Conditions × (Name → ℕ)). Inv K t z.0 z.1)
      (λ i. (sym (puts_condition ws s) i, sym (puts_forks ws s) i)) h

  -- children of fork n come to be, where none was before and none has forked
  births_well : (t : Name → ℕ) (p : Name) (n i : ℕ) (os : List Process) (s : StateOf g) → ((j : ℕ) → t ((n, j) ∷ p) ≡ 0)
      → ((j : ℕ) → s.forks ((n, j) ∷ p) ≡ 0) → Children K p n i os → Well t s
      → Well t (with_changes (birth_changes {L = L} p n i os) s)
  births_well t p n i [] s nil none h w = w
  births_well t p n i (o ∷ os) s nil none h w =
      births_well t p n (suc i) os (with_change (Becomes ((n, i) ∷ p) (Works o)) s) nil none h.1
      (becomes K t s.condition s.forks ((n, i) ∷ p) (Works o) w
      (subst (λ z. ProcessKeeps K z (s.forks ((n, i) ∷ p)) ((n, i) ∷ p) o) (sym (nil i))
      (subst (λ z. ProcessKeeps K 0 z ((n, i) ∷ p) o) (sym (none i)) h.0)))

  longer : (a : ℕ × ℕ) (p : Name) → p ≢ a ∷ p
  longer a p e = let x : length p ≡ suc (length p) = ap length e in omega (arith, x)

  module _ (s : StateOf g) (sound : Sound s) (p : Name) where
    abbrev T : Name → ℕ
    T q = ticks_in (s.condition q)

    unborn_zero : (j : ℕ) → T ((s.forks p, j) ∷ p) ≡ 0
    unborn_zero j = ap ticks_in (sound.unborn p (s.forks p) j (le_refl (s.forks p)))

    unborn_never : Well T s → (j : ℕ) → s.forks ((s.forks p, j) ∷ p) ≡ 0
    unborn_never w j = (subst
        (λ x. ConditionKeeps K (T ((s.forks p, j) ∷ p)) (s.forks ((s.forks p, j) ∷ p)) ((s.forks p, j) ∷ p)
        x) (sound.unborn p (s.forks p) j (le_refl (s.forks p))) (w ((s.forks p, j) ∷ p))).0

    forked_well : Well T s → (o : Process) (os : List Process) → ProcessKeeps K (T p) (s.forks p + 1) p o
        → Children K p (s.forks p) 0 os
        → Well T (with_changes (birth_changes {L = L} p (s.forks p) 0 os)
        (with_change (AddsTotals (record { processes = length os; channels = 0; entries = 1 }))
        (with_change (Forked p) (with_change (Becomes p (Joins (s.forks p) (length os) o)) s))))
    forked_well w o os own children =
        births_well T p (s.forks p) 0 os
        (with_change (AddsTotals (record { processes = length os; channels = 0; entries = 1 }))
        (with_change (Forked p) (with_change (Becomes p (Joins (s.forks p) (length os) o)) s))) unborn_zero
        (λ j. at_other name_test s.forks p ((s.forks p, j) ∷ p) (s.forks p + 1) (longer (s.forks p, j) p)
        ∙ unborn_never w j) children joined
      where
        joined : (q : Name) → ConditionKeeps K (T q) (at_key same_name p (s.forks p + 1) s.forks q) q
            (at_key same_name p (Joins (s.forks p) (length os) o) s.condition q)
        joined q = go (same_name p q) refl
          where
            go : (b : Bool) → same_name p q ≡ b
                → ConditionKeeps K (T q) (cond b (s.forks p + 1) (s.forks q)) q
                (cond b (Joins (s.forks p) (length os) o) (s.condition q))
            go true e = subst (λ z. ProcessKeeps K (T z) (s.forks p + 1) z o) ((name_test p q).0 e) own
            go false e = w q

    hands_well : Well T s → (o : OfferOf L) (z : Name) (v : OfferOf L) → s.condition z ≡ Waits v
        → ProcessKeeps K (T p) (s.forks p) p o.next → (m : Option (Address × LocationContent))
        → Well T (result_of s p (handover_outcome {L = L} s p o z v m))
    hands_well w o z v e own None = w
    hands_well w o z v e own (Some m) = go (o.kind == v.kind)
      where
        waits : ProcessKeeps K (T z) (s.forks z) z v.next
        waits = subst (λ x. ConditionKeeps K (T z) (s.forks z) z x) e (w z)

        go : (b : Bool) → Well T
            (result_of s p (if b then Advances (meeting_changes {L = L} s p o z v m) else Faulty fault.F7))
        go true = becomes K T (at_key same_name p (Works o.next) s.condition) s.forks z (Works v.next)
            (becomes K T s.condition s.forks p (Works o.next) w own) waits
        go false = w

    meets_well : Well T s → (o : OfferOf L) (z : Name) → ProcessKeeps K (T p) (s.forks p) p o.next → (c : ConditionOf L)
        → s.condition z ≡ c → Well T (result_of s p (meeting_outcome {L = L} s p o z c))
    meets_well w o z own (Waits v) e = hands_well w o z v e own (message o.payload v.payload)
    meets_well w _ _ _ _ _ = w

    offered_well : Well T s → (o : OfferOf L) → ProcessKeeps K (T p) (s.forks p) p o.next → (z : Option Name)
        → Well T (result_of s p (offer_outcome {L = L} s p o z))
    offered_well w o own None = becomes K T s.condition s.forks p (Waits o) w own
    offered_well w o own (Some z) = meets_well w o z own (s.condition z) refl

    acts_keep : Well T s → (a : ActOf L) → ActsWell K (T p) (s.forks p) p a
        → Well T (result_of s p (act_outcome {L = L} s p a))
    acts_keep w (Moves o ws) h = puts_well T ws (with_change (Becomes p (Works o)) s)
        (becomes K T s.condition s.forks p (Works o) w h)
    acts_keep w (Opens o ws) h = puts_well T ws
        (with_change (AddsTotals (record { processes = 0; channels = 1; entries = 1 }))
        (with_change (Becomes p (Works o)) s))
        (becomes K T s.condition s.forks p (Works o) w h)
    acts_keep w (Forks o os) h = forked_well w o os h.0 h.1
    acts_keep w (Offering o) h = offered_well w o h (s.pending o.channel)
    acts_keep w EndsProcess h = becomes K T s.condition s.forks p Ended w tt
    acts_keep w (MeetsFault f) h = w

    unless_keep : Well T s → (x : Option Fault) (out : ActOutcome L) → Well T (result_of s p out)
        → Well T (result_of s p (fault_or x out))
    unless_keep w None out h = h
    unless_keep w (Some f) out h = w

    -- a step of p keeps all this, and no ticks fall
    pub step_well : Well T s → (m : StateOf g) → next_state g s p ≡ Some m → Well T m
    step_well w m e = go (own_part s p) refl
      where
        go : (o : Option Process) → own_part s p ≡ o → Well T m
        go None r = let x : ◌≡◌ {A = Option (StateOf g)} None (Some m) =
            sym (ap (step_with (total_limits g) s p) r) ∙ e in
            absurd (cc x)
        go (Some pr) r =
            let a = L.next pr s.store in
            let keeps = working_keeps K s.condition (T p) (s.forks p) p (s.condition p) pr (w p) r in
            let to : Well T (result_of s p (step_outcome (total_limits g) s p a)) =
            unless_keep w (limit_fault (total_limits g) s.totals (cost a)) (act_outcome s p a)
            (acts_keep w a (acts_well (T p) (s.forks p) p pr s.store keeps)) in
            let is : result_of s p (step_outcome (total_limits g) s p a) ≡ m =
            same_Some (result_of s p (step_outcome (total_limits g) s p a)) m
            (sym (ap (step_with (total_limits g) s p) r) ∙ e) in
            subst (Well T) is to

  abbrev pub Zero : Name → ℕ
  Zero q = 0

  pub raised : (s : StateOf g) → Well Zero s → Well (λ q. ticks_in (s.condition q)) s
  raised s w q = raise K 0 (s.forks q) q (s.condition q) (w q)

  pub lowered : (t : Name → ℕ) (s : StateOf g) → Well t s → Well Zero s
  lowered t s w q = lower K (t q) (s.forks q) q (s.condition q) (w q)

  main_light : (bs : List Block) → weight_blocks bs ≤ K → AreLight K (main_items g bs)
  main_light [] h = tt
  main_light (b ∷ bs) h = go (nat_lt g.limits.cells (size_of_frame g 0))
    where
      go : (c : Bool) → AreLight K (if c then Break fault.F12 ∷ [] else push b.body [])
      go true = (tt, tt)
      go false = push_fit K b.body [] (omega (arith, h)) tt

  pub start_well : Well Zero (start g)
  start_well [] = record {
    named = record { name = refl; forks_are = refl };
    light = main_light g.program.blocks (le_refl (weight_blocks g.program.blocks));
    later = le_refl 0;
  }
  start_well (x ∷ q) = (refl, le_refl 0)

  pub start_sound : Sound (start g)
  start_sound = record { waits = λ c z e. absurd (cc e); unborn = λ z k i h. refl; joined = λ z k i l. absurd l }

  -- what is known of every state that a lawful schedule leads to
  pub record StateKeeps (s : StateOf g) : Type 0 where
    pub sound : Sound s
    pub well : Well Zero s

  pub reached : (qs : List Name) (s t : StateOf g) → StateKeeps s → Lawful g s qs t → StateKeeps t
  reached [] s t k l = subst StateKeeps (sym l) k
  reached (q ∷ qs) s t k (next, _, steps, leads) = reached qs next t
      (record {
        sound = step_sound (total_limits g) s q next k.sound steps;
        well = lowered (λ r. ticks_in (s.condition r)) next (step_well s k.sound q (raised s k.well) next steps);
      }) leads

  pub known : (s : StateOf g) → IsReached g s → StateKeeps s
  known s r = reached r.0 (start g) s (record { sound = start_sound; well = start_well }) r.1
