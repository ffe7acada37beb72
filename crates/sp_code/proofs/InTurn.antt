-- The journal of one worker that hands in what it holds is first in, first out.
use Rattle.std.proofs.Common.{◌≡◌, ◌≢◌, ◌⊎◌, ℕ, ◌+◌, ◌-◌, ◌==◌, inl, inr, Bool, true, false, cond, nat_lt, ◌||◌}
use Rattle.std.proofs.Common.{if◌then◌else◌, List, [], ◌∷◌, ◌++◌, append_assoc, Option, Some, None, refl, sym, ap, ◌∙◌}
use Rattle.std.proofs.Common.{subst, arith}
use Rattle.std.proofs.lemmas.List.{append-nil}
use Rattle.sp_journal.specs.declared.entry.Way.{Way}
use Rattle.sp_journal.specs.declared.entry.Way.TheVariants as way
use Rattle.sp_journal.specs.declared.entry.Event.{Event}
use Rattle.sp_journal.specs.declared.entry.Event.TheVariants as event
use Rattle.sp_journal.specs.declared.entry.Birth.{Birth}
use Rattle.sp_journal.specs.declared.entry.Note.{Note}
use Rattle.sp_journal.specs.Maps.{at_key}
use Rattle.sp_journal.specs.Births.{Births, is_next, first_births}
use Rattle.sp_journal.specs.Queue.{QueueState, first_queue, numbers, queue_with, queue_after_offer, queue_after_end}
use Rattle.sp_journal.specs.Queue.{queue_after_event, InTurnFrom}
use Rattle.sp_code.specs.Memory.{CodeRun, Stores}
use Rattle.sp_code.specs.Control.{Control, Doing, Unborn, Ready, Out, Joining, Laid, Ended, does, queues, offers}
use Rattle.sp_code.specs.Control.{one_fewer, reports, comes_back, abandons, takes, queue_tail, after_give, after_note}
use Rattle.sp_code.specs.Control.{control_at_start, entry_of, entries_of, front, front_while, Running, IsDone}
use Rattle.sp_code.specs.Control.{IsDeadlock, IsFault, IsMemory, has_ended, is_ready}
use Rattle.sp_code.specs.System.{System, GiveIsLegal, GetIsLegal, opening_system}
use Rattle.sp_code.specs.Agreement.{IsOrderly, AgreesWithSystem, SamePending, waits_by, IsGot, Reaches}
use Rattle.sp_code.specs.WorkerHistory.{OneByOne, HasChildren}
use Rattle.sp_code.proofs.Queues.{number_or, at_same, at_other}
use Rattle.sp_code.proofs.ControlAgreement.{pending_at, orderly_start, agrees_start}
use Rattle.sp_code.proofs.Legal.{got_of, keeps}
use Rattle.sp_code.proofs.Families.{children_start, parent_joins, children_back, children_takes}
use Rattle.sp_code.proofs.Orders.{orderly_back}

-- the process that the worker holds, before those that are ready
abbrev held : Option ℕ → List ℕ → List ℕ
held None ps = ps
held (Some p) ps = p ∷ ps

-- the line of the journal is that of the control, with what the worker holds at its head
record InLine (k : Control) (l : QueueState) (o : Option ℕ) : Type 0 where
  ready : l.ready ≡ held o k.ready
  pending : (c : ℕ) → SamePending (k.pending c) (l.pending c)
  awaited : (p n : ℕ) → k.doing p ≡ Joining n → l.awaited p ≡ n

-- who does something else waits for no child
no_join : (f : ℕ → Doing) (a : ℕ → ℕ) (p : ℕ) (v : Doing) → ((n : ℕ) → v ≢ Joining n)
    → ((q n : ℕ) → f q ≡ Joining n → a q ≡ n) → (q n : ℕ) → at_key ◌==◌ p v f q ≡ Joining n → a q ≡ n
no_join f a p v never h q n e = go (number_or p q)
  where
    go : (p ≡ q) ⊎ ((p ≢ q) × (p == q ≡ false)) → a q ≡ n
    go (inl is) = absurd (never n (sym (at_same f p v) ∙ subst (λ y. at_key ◌==◌ p v f y ≡ Joining n) (sym is) e))
    go (inr d) = h q n (sym (at_other f p q v d.0) ∙ e)

-- who comes to wait for n children is noted with n
one_join : (f : ℕ → Doing) (a : ℕ → ℕ) (p m : ℕ) (v : Doing) → ((n : ℕ) → v ≡ Joining n → m ≡ n)
    → ((q n : ℕ) → f q ≡ Joining n → a q ≡ n) → (q n : ℕ) → at_key ◌==◌ p v f q ≡ Joining n → at_key ◌==◌ p m a q ≡ n
one_join f a p m v is h q n e = go (number_or p q)
  where
    go : (p ≡ q) ⊎ ((p ≢ q) × (p == q ≡ false)) → at_key ◌==◌ p m a q ≡ n
    go (inl w) = subst (λ y. at_key ◌==◌ p m a y ≡ n) w
        (at_same a p m ∙ is n (sym (at_same f p v) ∙ subst (λ y. at_key ◌==◌ p v f y ≡ Joining n) (sym w) e))
    go (inr d) = at_other a p q m d.0 ∙ h q n (sym (at_other f p q v d.0) ∙ e)

no_waits : (w : Way) (c n : ℕ) → waits_by w c ≢ Joining n
no_waits way.Send c n e = absurd (cc e)
no_waits way.Receive c n e = absurd (cc e)

is_joining : (m n : ℕ) → Joining m ≡ Joining n → m ≡ n
is_joining m n e = cc

-- the line without its head
abbrev rest_of : Control → QueueState → QueueState
rest_of k l = record l { ready = k.ready }

module _ (k : Control) (l : QueueState) (p w : ℕ) (o : IsOrderly k) (h : HasChildren k) (i : InLine k l (Some p))
    (out : k.doing p ≡ Out w) where
  line_offer : (v : Way) (c : ℕ) (x : Option (Way × ℕ)) (y : Option ℕ) → SamePending x y
      → InLine (record (offers v (waits_by v c) p c x k) { out = k.out - 1; births = k.births })
      (queue_after_offer (rest_of k l) p c y) None
  line_offer v c None None e = record {
    ready = refl;
    pending = pending_at c (Some (v, p)) (Some p) k.pending l.pending refl i.pending;
    awaited = no_join k.doing l.awaited p (waits_by v c) (no_waits v c) i.awaited;
  }
  line_offer v c None (Some z) e = absurd e
  line_offer v c (Some y) None e = absurd e
  line_offer v c (Some y) (Some z) e = record {
    ready = ap (λ a. k.ready ++ (a ∷ p ∷ [])) (sym e) ∙ sym (append_assoc k.ready (y.1 ∷ []) (p ∷ []));
    pending = pending_at c None None k.pending l.pending (tt {0}) i.pending;
    awaited = no_join _ l.awaited p Ready (λ n f. absurd (cc f))
        (no_join k.doing l.awaited y.1 Ready (λ n f. absurd (cc f)) i.awaited);
  }

  line_end : InLine (comes_back p event.End k) (queue_after_end (rest_of k l) (k.births.birth p)) None
  line_end = go (k.births.birth p) refl
    where
      m : Control
      m = does p Ended k

      ended : (q n : ℕ) → m.doing q ≡ Joining n → l.awaited q ≡ n
      ended = no_join k.doing l.awaited p Ended (λ n f. absurd (cc f)) i.awaited

      fewer : (b n : ℕ) → m.doing b ≡ Joining n → (a : ℕ) → a ≡ n → (t : Bool) → n == 1 ≡ t
          → InLine (record (if t then queues b m else does b (Joining (n - 1)) m)
          { out = k.out - 1; births = k.births })
          (record l { ready = k.ready ++ cond (a == 1) (b ∷ []) []; awaited = at_key ◌==◌ b (a - 1) l.awaited })
          None
      fewer b n joins a e true f = record {
        ready = ap (λ (s : Bool). k.ready ++ cond s (b ∷ []) []) (ap (λ x. x == 1) e ∙ f);
        pending = i.pending;
        awaited = one_join m.doing l.awaited b (a - 1) Ready (λ j g. absurd (cc g)) ended;
      }
      fewer b n joins a e false f = record {
        ready = ap (λ (s : Bool). k.ready ++ cond s (b ∷ []) []) (ap (λ x. x == 1) e ∙ f) ∙ append-nil k.ready;
        pending = i.pending;
        awaited = one_join m.doing l.awaited b (a - 1) (Joining (n - 1))
            (λ j g. ap (λ x. x - 1) e ∙ is_joining (n - 1) j g) ended;
      }

      go : (x : Option Birth) → k.births.birth p ≡ x
          → InLine (record (reports x m) { out = k.out - 1; births = k.births }) (queue_after_end (rest_of k l) x) None
      go None e = record { ready = refl; pending = i.pending; awaited = ended }
      go (Some b) e =
          let apart : p ≢ b.parent = λ is. omega (arith, o.parents p b e, is) in
          let j = parent_joins k h p w b out e in
          let joins : m.doing b.parent ≡ Joining j.0 = at_other k.doing p b.parent Ended apart ∙ j.1 in
          subst (λ d. InLine (record (one_fewer b.parent d m) { out = k.out - 1; births = k.births })
          (queue_after_end (rest_of k l) (Some b)) None) (sym joins)
          (fewer b.parent j.0 joins (l.awaited b.parent) (i.awaited b.parent j.0 j.1) (j.0 == 1) refl)

  line_fork : (n : ℕ) → InLine (comes_back p (event.Fork n) k)
      (queue_with (record (rest_of k l) { awaited = at_key ◌==◌ p n l.awaited }) (numbers k.births.processes n)) None
  line_fork n = record {
    ready = refl;
    pending = i.pending;
    awaited = λ q m e. go q m (is_next k.births n q) e;
  }
    where
      go : (q m : ℕ) (t : Bool) → cond t Ready (at_key ◌==◌ p (Joining n) k.doing q) ≡ Joining m
          → at_key ◌==◌ p n l.awaited q ≡ m
      go q m true e = absurd (cc e)
      go q m false e = one_join k.doing l.awaited p n (Joining n) (λ j g. is_joining n j g) i.awaited q m e

  -- an event of what the worker holds
  line_back : (e : Event) → InLine (comes_back p e k) (queue_after_event k.births (rest_of k l) p e) None
  line_back (event.Fork n) = line_fork n
  line_back event.Open = record {
    ready = refl;
    pending = i.pending;
    awaited = no_join k.doing l.awaited p Ready (λ n f. absurd (cc f)) i.awaited;
  }
  line_back (event.Send c) = line_offer way.Send c (k.pending c) (l.pending c) (i.pending c)
  line_back (event.Receive c) = line_offer way.Receive c (k.pending c) (l.pending c) (i.pending c)
  line_back event.End = line_end
  line_back (event.Fault f) = record {
    ready = refl;
    pending = i.pending;
    awaited = no_join k.doing l.awaited p Laid (λ n f. absurd (cc f)) i.awaited;
  }
  line_back event.Laid = record {
    ready = refl;
    pending = i.pending;
    awaited = no_join k.doing l.awaited p Laid (λ n f. absurd (cc f)) i.awaited;
  }
  line_back event.Pause = record {
    ready = refl;
    pending = i.pending;
    awaited = no_join k.doing l.awaited p Ready (λ n f. absurd (cc f)) i.awaited;
  }

-- the next is got
line_takes : (k : Control) (l : QueueState) (w : ℕ) (got : Option ℕ) → InLine k l None → IsGot k got
    → InLine (takes w got k) l got
line_takes k l w None i g = i
line_takes k l w (Some q) i ((_, queue_is), _) = record {
  ready = i.ready ∙ queue_is ∙ ap (λ r. q ∷ r) (sym (ap queue_tail queue_is));
  pending = i.pending;
  awaited = no_join k.doing l.awaited q (Out w) (λ n f. absurd (cc f)) i.awaited;
}

some_abandon : (n : ℕ) → nat_lt 0 (n + 1) ≡ true
some_abandon n = grind (arith)

-- after an abandon nothing is got
none_got : (k : Control) (q : ℕ) → nat_lt 0 k.abandons ≡ true → front k ≡ Some q → ⊥
none_got k q e = go (nat_lt 0 k.abandons) e
  where
    go : (b : Bool) → b ≡ true → front_while
        (if b then IsMemory else (if k.faulted then IsFault else
        (if has_ended (k.doing 0) then IsDone else
        (if is_ready k.ready || nat_lt 0 k.out then Running else IsDeadlock)))) k.ready ≡ Some q → ⊥
    go true w f = cc
    go false w f = cc

taken_births : (k : Control) (w : ℕ) (got : Option ℕ) → (takes w got k).births ≡ k.births
taken_births k w None = refl
taken_births k w (Some q) = refl

module _ {S : Type 0} (stores : Stores S) (g : CodeRun) where
  -- so a worker that holds nothing makes no event any more
  no_event_by : (w : ℕ) (give : Option ℕ) (e : Option Event) (got : Option ℕ) (ns : List Note) (k : Control)
      (s u t : System S) → nat_lt 0 k.abandons ≡ true → give ≡ None → GiveIsLegal stores g k s w give e got u
      → GetIsLegal stores g (after_give give e got k) e got
      → Reaches stores g (takes w got (after_give give e got k)) u ns t → OneByOne got ns
      → ((k1 : Control) → nat_lt 0 k1.abandons ≡ true → Reaches stores g k1 u ns t → OneByOne None ns
      → entries_of ns ≡ []) → entry_of give e ++ entries_of ns ≡ []
  no_event_by w None None None ns k s u t a e v j r x go = go (abandons None k) (some_abandon k.abandons) r x
  no_event_by w None None (Some q) ns k s u t a e v j r x go = absurd (none_got k q a j)
  no_event_by w None (Some d) got ns k s u t a e v j r x go = absurd v
  no_event_by w (Some p) d got ns k s u t a e v j r x go = absurd (cc e)

  no_event : (k : Control) (s t : System S) (ns : List Note) → nat_lt 0 k.abandons ≡ true → Reaches stores g k s ns t
      → OneByOne None ns → entries_of ns ≡ []
  no_event k s t [] e r x = refl
  no_event k s t (n ∷ ns) e r x = no_event_by n.worker n.given n.event n.got ns k s r.0 t e x.0 r.1.gives r.1.gets r.2
      x.1
      (λ k1 f v y. no_event k1 r.0 t ns f v y)

  by_note : (w : ℕ) (give : Option ℕ) (e : Option Event) (got : Option ℕ) (ns : List Note) (k : Control)
      (l : QueueState)
      (s u t : System S) → IsOrderly k → HasChildren k → InLine k l give
      → GiveIsLegal stores g k s w give e got u → GetIsLegal stores g (after_give give e got k) e got
      → Reaches stores g (takes w got (after_give give e got k)) u ns t → OneByOne got ns
      → ((l1 : QueueState) → HasChildren (takes w got (after_give give e got k))
      → InLine (takes w got (after_give give e got k)) l1 got
      → InTurnFrom (takes w got (after_give give e got k)).births l1 (entries_of ns))
      → InTurnFrom k.births l (entry_of give e ++ entries_of ns)
  by_note w None None None ns k l s u t h c i v j r x go =
      go l (record { children = c.children; count = c.count; all = c.all })
      (record { ready = i.ready; pending = i.pending; awaited = i.awaited })
  by_note w None None (Some q) ns k l s u t h c i v j r x go = let f = got_of k h (Some q) (sym j) in
      go l (children_takes k c w (Some q) f) (line_takes k l w (Some q) i f)
  by_note w None (Some e) got ns k l s u t h c i v j r x go = absurd v
  by_note w (Some p) None None ns k l s u t h c i v j r x go =
      subst (InTurnFrom k.births l) (sym (no_event (abandons (Some p) k) u t ns (some_abandon k.abandons) r x)) (tt {0})
  by_note w (Some p) None (Some q) ns k l s u t h c i v j r x go = absurd (cc (v.1))
  by_note w (Some p) (Some e) got ns k l s u t h c i v j r x go =
      let out : k.doing p ≡ Out w = v.0 in
      let k1 : Control = comes_back p e k in
      let o1 : IsOrderly k1 = orderly_back k h p w e out in
      let f = got_of k1 o1 got j in
      let l1 : QueueState = queue_after_event k.births (rest_of k l) p e in
      let rest = go l1 (children_takes k1 (children_back k h c p w out e) w got f)
      (line_takes k1 l1 w got (line_back k l p w h c i out e) f) in
      (k.ready, i.ready, subst (λ (b : Births). InTurnFrom b l1 (entries_of ns)) (taken_births k1 w got) rest)

  in_turn : (k : Control) (l : QueueState) (o : Option ℕ) (s t : System S) (ns : List Note) → IsOrderly k
      → AgreesWithSystem k s
      → HasChildren k → InLine k l o → Reaches stores g k s ns t → OneByOne o ns → InTurnFrom k.births l (entries_of ns)
  in_turn k l o s t [] h a c i r x = tt {0}
  in_turn k l o s t (n ∷ ns) h a c i r x =
      let m = keeps stores g k s r.0 n h a r.1 in
      by_note n.worker n.given n.event n.got ns k l s r.0 t h c (subst (InLine k l) (sym x.0) i) r.1.gives r.1.gets r.2
      x.1 (λ l1 c1 i1. in_turn (after_note n k) l1 n.got r.0 t ns m.0 m.1 c1 i1 r.2 x.1)

  -- from the start, where the worker holds nothing
  pub first_in_first_out : (s : System S) (ns : List Note)
      → Reaches stores g control_at_start (opening_system stores g) ns s
      → OneByOne None ns → InTurnFrom first_births first_queue (entries_of ns)
  first_in_first_out s ns r x = in_turn control_at_start first_queue None (opening_system stores g) s ns orderly_start
      (agrees_start stores g) children_start
      (record { ready = refl; pending = λ c. tt {0}; awaited = λ p n e. absurd (none p n (p == 0) e) }) r x
    where
      none : (p n : ℕ) (b : Bool) → (if b then Ready else Unborn) ≡ Joining n → ⊥
      none p n true e = cc
      none p n false e = cc
