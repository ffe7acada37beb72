-- All is well with the next event of each process of a system that is linked: a fork can be carried out (`can_split`),
-- and a child that ends can be joined (`can_join`), and a message can be put where it goes (`put_by_send`,
-- `put_by_receive`).
use Rattle.std.proofs.Common.{◌≡◌, ◌⊎◌, inl, inr, ⊎_elim, ℕ, zero, suc, ◌<◌, ◌==◌, ℤ, List, [], ◌∷◌, ◌++◌, length}
use Rattle.std.proofs.Common.{Option, Some, None, Bool, true, false, if◌then◌else◌, eqb-true, refl, sym, ap, ◌∙◌, subst}
use Rattle.std.proofs.Common.{arith}
use Rattle.std.specs.Prelude.{nat_le}
use Rattle.std.specs.FinMap as fin
use Rattle.std.proofs.lemmas.Option.{none-some, same_Some}
use Rattle.sp_base.specs.declared.fault.Fault.{Fault}
use Rattle.sp_base.specs.declared.fault.Fault.TheVariants as fault
use Rattle.sp_journal.specs.declared.entry.Birth.{Birth}
use Rattle.sp_journal.specs.declared.entry.Way.TheVariants as way
use Rattle.sp_cell.specs.declared.cell.Cell.{Cell as OneCell}
use Rattle.sp_cell.specs.declared.spot.Spot.{Spot}
use Rattle.sp_cell.specs.declared.spot.Address.{Address as Ptr}
use Rattle.sp_cell.specs.Map.{Plain, IsHeld, IsOwn, HasCells}
use Rattle.sp_cell.specs.Spots.{In}
use Rattle.sp_meaning.specs.Model.{Name, Channel, Payload, Message, Takes, Joins}
use Rattle.sp_meaning.specs.Steps.{has_ended, JoinsAt, IsAlive as IsLive}
use Rattle.sp_meaning.specs.Values.{Value}
use Rattle.sp_meaning.specs.LocalWork.{LocationContent, Tree, Position, Written, Address, LocalState, Identity, Process}
use Rattle.sp_meaning.specs.LocalWork.{WorkOutcome, Computed, EndsInFault, IllFormed, OutOfFuel}
use Rattle.sp_meaning.specs.Actions.{Stepped, Ticked, Opened, Forked, Offered, Ended}
use Rattle.sp_meaning.specs.Run.{Store}
use Rattle.sp_meaning.specs.Runs.{StateOf}
use Rattle.sp_meaning.specs.Along.{JournalState}
use Rattle.sp_meaning.specs.Turn as source
use Rattle.sp_meaning.proofs.Rights.{OwnLocation}
use Rattle.sp_meaning.proofs.Status.{working_lives}
use Rattle.sp_code.specs.Machine.{Config, At}
use Rattle.sp_code.specs.Machine as machine
use Rattle.sp_code.specs.Turns.{Turn, Stopped, Faulted, IsTurn, BeginsOrFaults}
use Rattle.sp_code.specs.Turns as turns
use Rattle.sp_code.specs.Memory.{Memory}
use Rattle.sp_code.specs.PlainStore.{plain}
use Rattle.sp_code.specs.Scopes.{sort, size}
use Rattle.sp_code.specs.Sound.{StopsAt, CanSplit, CanJoin, CanPut}
use Rattle.sp_code.specs.System.{System, store_of, plan_of}
use Rattle.sp_code.specs.System as sys
use Rattle.sp_code.proofs.OneTurn.{turn_same}
use Rattle.sp_code.proofs.StoreLaws.{held_of_cells}
use Rattle.sp_codegen.specs.CodePositions.{PayloadIs, cells_in}
use Rattle.sp_codegen.specs.FramePairs.{FramePair}
use Rattle.sp_codegen.specs.Shapes.{Flat}
use Rattle.sp_codegen.specs.MemoryRelation.{PointsTo, made_frames}
use Rattle.sp_codegen.proofs.Safe.{AtEnd}
use Rattle.sp_link.proofs.TurnsMeet.{outcome, kept, turned, ends, result}
use Rattle.sp_link.proofs.Foralls as forall
use Rattle.sp_link.proofs.Journal.{has_number}
use Rattle.sp_link.proofs.Messages.{sent_flat, owned_ready, room, message_length}
use Rattle.sp_link.proofs.OneChanges.{q, pr, its, here, runs_as_pr, light, keeps_to}
use Rattle.sp_link.proofs.Parallels as parallel
use Rattle.sp_link.proofs.Pauses.{Meant, Machined, Kept_to, kids, turn_is}
use Rattle.sp_link.proofs.Splits.{bytes_held}
use Rattle.sp_link.proofs.Relation.{RunContext, BirthRights, RightsOfAll, Named, St, Ca, ProcessMatches, HasOwnTarget}
use Rattle.sp_link.proofs.Relation.{Joined, Performs_all}
use Rattle.sp_link.proofs.Relation.{Linked, run_is, ops}
use Rattle.sp_link.proofs.Relation.{AtStop, stop_of}
use Rattle.sp_link.proofs.Pauses.{MatchesNow, running, ForksAt, OffersAt, pauses_at, forks_at, offers_at, opens_at}
use Rattle.sp_link.proofs.Pauses.{ends_at}
use Rattle.sp_link.proofs.MachineStops.{ForkStop}
use Rattle.sp_journal.proofs.BirthLaws.{Born}
use Rattle.sp_meaning.specs.Model.{Offer}

-- what a process made beside its first frames
none_made : (js : List FramePair) → made_frames (length js) js ≡ []
none_made [] = refl
none_made (j ∷ js) = ap (λ b. if b then made_frames (length (j ∷ js)) js ++ (j.machine.number ∷ []) else [])
    (too_long (length js))
  where
    too_long : (n : ℕ) → nat_le (suc n) n ≡ false
    too_long n = Prim.grind arith

-- what is sent is a value of its type, in cells
abbrev pub IsMessage : RunContext → ℕ → List OneCell → Type 0
IsMessage G k cs = (v : Value) × Flat G.g.program (Named G) k v cs

-- where a message of this type goes, there is room for it, in a piece of the process's own
pub record Takes_well (G : RunContext) (k : ℕ) (a : Ptr) (e : Config (Memory Plain)) : Type 0 where
  pub own : IsOwn (fin.get (store_of e).map a.spot)
  pub room : HasCells (store_of e).map a (size G.g.program k)
  pub typed : k < length G.g.program.kinds

taken_well : (G : RunContext) (lf : BirthRights) (kids : ℕ → ℕ → BirthRights) (q : Name) {who : Identity} {since : ℕ}
    {js : List FramePair}
    {o : LocalState} {s : Store} (k : ℕ) (w : Address) (a : Ptr) (pc : ℕ) (st : List machine.Entry) (n : Memory Plain)
    → St G lf kids q who since js o s n
    → w.kind ≡ k → PointsTo G.g.program js w a → OwnLocation q w.spot ⊎ lf.R w.spot → IsOwn (fin.get n.store.map a.spot)
    → Takes_well G k a (At pc st n)
taken_well G lf kids q k w a pc st n t e p may own = record {
  own = own;
  room = subst (λ y. HasCells n.store.map a (size G.g.program y)) e (room G lf kids q t w a p may);
  typed = subst (λ y. y < length G.g.program.kinds) e p.typed;
}

-- a message of its type can be put there
can_put : (G : RunContext) (k : ℕ) (a : Ptr) (e : Config (Memory Plain)) (cs : List OneCell) → Takes_well G k a e
    → IsMessage G k cs → CanPut (store_of e) a cs
can_put G k a e cs t m = record {
  own = t.own;
  in_range = subst (λ y. HasCells (store_of e).map a y) (sym (message_length G k t.typed m.0 cs m.1)) t.room;
}

module _ (G : RunContext) (lv : RightsOfAll G) (c : JournalState) (s : StateOf G.g) (u : System Plain)
    (l : Linked G lv c s u)
    (no_fault : u.faulted ≡ false) where
  -- a process that runs
  module _ (i : ℕ) (d : Config (Memory Plain)) (at : u.condition i ≡ sys.Working d) where
    abbrev at_stop : AtStop
    at_stop = stop_of G lv c s u l i d at

    abbrev v : Name
    v = q at_stop

    module _ (P : Turn (Memory Plain) → Type 0)
        (z : MatchesNow at_stop) where
      -- what is so of the end of its turn, whichever it is
      abbrev HoldsAtTurnEnd : WorkOutcome source.Stop × Store → Type 0
      HoldsAtTurnEnd r = AtEnd r → Meant at_stop z r → Machined at_stop z r
          → Kept_to at_stop z r → (tn : Turn (Memory Plain)) × IsTurn (ops G) G.code d tn × P tn

      abbrev kt : Rattle.sp_meaning.proofs.RightsInvariant.Keeps_to G.g.program
          (Rattle.sp_link.proofs.Relation.W_of G lv)
          (Rattle.sp_link.proofs.Relation.R_of G lv) s.forks (q at_stop) (pr at_stop)
      kt = keeps_to at_stop

      of_turn : ((r : WorkOutcome source.Stop × Store) → HoldsAtTurnEnd r) → (tn : Turn (Memory Plain))
          → IsTurn (ops G) G.code d tn → P tn
      of_turn f tn is = by (f (result G (lv v) (kids at_stop) v (c.since v) s (pr at_stop) d z
          (runs_as_pr at_stop) (light at_stop) kt.last kt.fit)
          (ends G (lv v) (kids at_stop) v (c.since v) s (pr at_stop) d z
          (runs_as_pr at_stop) (light at_stop) kt.last kt.fit)
          (outcome G (lv v) (kids at_stop) v (c.since v) s (pr at_stop) d z
          (runs_as_pr at_stop) (light at_stop) kt.last kt.fit)
          (turned G (lv v) (kids at_stop) v (c.since v) s (pr at_stop) d z
          (runs_as_pr at_stop) (light at_stop) kt.last kt.fit)
          (kept G (lv v) (kids at_stop) v (c.since v) s (pr at_stop) d z
          (runs_as_pr at_stop) (light at_stop) kt.last kt.fit))
        where
          by : (tn1 : Turn (Memory Plain)) × IsTurn (ops G) G.code d tn1 × P tn1 → P tn
          by w = subst (λ y. P y) (turn_same (ops G) G.code d w.0 tn w.1 is) w.2

    -- one that stops is no process whose frame is too large
    stands_at : (stop : machine.Stop) (e : Config (Memory Plain)) → IsTurn (ops G) G.code d (Stopped stop e)
        → MatchesNow at_stop
    stands_at stop e is = ⊎_elim (λ z. z) (λ z. absurd
        (no_stop (subst (λ b. BeginsOrFaults b d (Stopped stop e) (turns.Runs (ops G) G.code d (Stopped stop e)))
        z.no_room is)))
        (its at_stop).2
      where
        no_stop : ◌≡◌ {A = Turn (Memory Plain)} (Stopped stop e) (Faulted fault.F12 d) → ⊥
        no_stop e = cc e

    -- it has no frame of its own left, and stands with those that it began with
    record Left_by (e : Config (Memory Plain)) : Type 0 where
      pub own : LocalState
      pub store : Store
      pub memory : Memory Plain
      pub store_is : store_of e ≡ memory.store
      pub stands : St G (lv v) (kids at_stop) v (pr at_stop).who (c.since v) (lv v).below own
          store memory

    -- all is well with the end of a turn
    abbrev Well : Turn (Memory Plain) → Type 0
    Well (Faulted f e) = Unit {0}
    Well (Stopped (machine.Forks tb val n) e) = CanSplit (store_of e) (plan_of plain (run_is G) e tb val n)
    Well (Stopped (machine.Opens a) e) = Unit {0}
    Well (Stopped (machine.Sends ch k cs) e) = IsMessage G k cs
    Well (Stopped (machine.Receives ch k a) e) = Takes_well G k a e
    Well (Stopped machine.Ends e) = Left_by e
    Well (Stopped machine.Pauses e) = Unit {0}

    module _ (z : MatchesNow at_stop) where
      abbrev Payload_is : List FramePair → Channel → ℕ → Payload LocationContent Address → machine.Stop → Type 0
      Payload_is fs ch k g x = PayloadIs (running at_stop z) fs ch k g x

      by_well : (r : WorkOutcome source.Stop × Store) → HoldsAtTurnEnd Well z r
      by_well (Computed (source.Paused todo) o, m) e x t y =
          let h = pauses_at at_stop z todo o m t in (
            Stopped machine.Pauses (At h.pc h.stack h.memory),
            turn_is at_stop z (Stopped machine.Pauses (At h.pc h.stack h.memory)) (h.last, h.comes, h.stops),
            tt,
          )
      by_well (Computed (source.Stops (Stepped todo)) o, m) e x t y = absurd e
      by_well (Computed (source.Stops (Ticked todo)) o, m) e x t y = absurd e
      by_well (Computed (source.Stops (Opened todo)) o, m) e x t y =
          let h = opens_at at_stop z todo o m t in (
            Stopped (machine.Opens h.target) (At h.pc h.stack h.memory),
            turn_is at_stop z (Stopped (machine.Opens h.target) (At h.pc h.stack h.memory)) (h.last, h.comes, h.stops),
            tt,
          )
      by_well (Computed (source.Stops (Forked bs todo)) o, m) e x t y = (
        Stopped h.stop (At h.pc h.stack h.memory),
        turn_is at_stop z (Stopped h.stop (At h.pc h.stack h.memory)) (h.last, h.comes, h.stops),
        by_form h.forks,
      )
        where
          h : ForksAt at_stop z bs todo o m
          h = forks_at at_stop z bs todo o m t

          by_form : ForkStop (running at_stop z) h.frames bs h.stop → Well (Stopped h.stop (At h.pc h.stack h.memory))
          by_form (inl f) = subst (λ b. Well (Stopped b (At h.pc h.stack h.memory))) (sym f.stop_is)
              (parallel.can_split at_stop z bs todo o m x h y no_fault f)
          by_form (inr f) = subst (λ b. Well (Stopped b (At h.pc h.stack h.memory))) (sym f.stop_is)
              (forall.can_split at_stop z bs todo o m x h y no_fault f)
      by_well (Computed (source.Stops (Offered ch k a todo)) o, m) e x t y = (
        Stopped h.stop (At h.pc h.stack h.memory),
        turn_is at_stop z (Stopped h.stop (At h.pc h.stack h.memory)) (h.last, h.comes, h.stops),
        by_payload a h.carries,
      )
        where
          h : OffersAt at_stop z ch k a todo o m
          h = offers_at at_stop z ch k a todo o m t

          by_payload : (g : Payload LocationContent Address) → Payload_is h.frames ch k g h.stop
              → Well (Stopped h.stop (At h.pc h.stack h.memory))
          by_payload (Message (Tree w)) (j, entry, stop_is, named, stood) =
              subst (λ b. Well (Stopped b (At h.pc h.stack h.memory))) (sym stop_is) (
                w,
                sent_flat G (lv v) (kids at_stop) v (pr at_stop).who (c.since v) k (sort G.g.program k) refl w entry
                    stood,
              )
          by_payload (Message (Position n)) r = absurd r
          by_payload (Message (Written bs)) r = absurd r
          by_payload (Takes w) (j, target, stop_is, named, kind_is, points, may) =
              subst (λ b. Well (Stopped b (At h.pc h.stack h.memory))) (sym stop_is)
              (taken_well G (lv v) (kids at_stop) v k w target h.pc h.stack h.memory h.stand kind_is points may
              (subst (λ b. HasOwnTarget b (At h.pc h.stack (record (h.memory) { since = h.memory.ticks }))) stop_is
              (owned_ready G h.stop h.pc h.stack h.memory h.owned)))
      by_well (Computed (source.Stops Ended) o, m) e x t y =
          let h = ends_at at_stop z o m t in (
            Stopped machine.Ends (At h.pc h.stack h.memory),
            turn_is at_stop z (Stopped machine.Ends (At h.pc h.stack h.memory))
                (At h.pc h.stack h.memory, h.comes, h.stops),
            record {
              own = o;
              store = m;
              memory = h.memory;
              store_is = refl;
              stands = subst (λ b. St G (lv v) (kids at_stop) v (pr at_stop).who (c.since v) b o m h.memory)
                  h.frames_are h.stand;
            },
          )
      by_well (EndsInFault f, m) e x t y = (
        Faulted f t.configuration,
        turn_is at_stop z (Faulted f t.configuration) (t.configuration, t.comes, (t.fails, refl)),
        tt,
      )
      by_well (IllFormed, m) e x t y = absurd e
      by_well (OutOfFuel, m) e x t y = absurd e

    turns_well : (stop : machine.Stop) (e : Config (Memory Plain)) → IsTurn (ops G) G.code d (Stopped stop e)
        → Well (Stopped stop e)
    turns_well stop e is = let z = stands_at stop e is in of_turn Well z (by_well z) (Stopped stop e) is

    pub can_split : (tb : ℕ) (val : ℤ) (n : ℕ) (e : Config (Memory Plain))
        → IsTurn (ops G) G.code d (Stopped (machine.Forks tb val n) e)
        → CanSplit (store_of e) (plan_of plain (run_is G) e tb val n)
    can_split tb val n e is = turns_well (machine.Forks tb val n) e is

    pub sends_well : (ch k : ℕ) (cs : List OneCell) (e : Config (Memory Plain))
        → IsTurn (ops G) G.code d (Stopped (machine.Sends ch k cs) e) → IsMessage G k cs
    sends_well ch k cs e is = turns_well (machine.Sends ch k cs) e is

    pub takes_well : (ch k : ℕ) (a : Ptr) (e : Config (Memory Plain))
        → IsTurn (ops G) G.code d (Stopped (machine.Receives ch k a) e) → Takes_well G k a e
    takes_well ch k a e is = turns_well (machine.Receives ch k a) e is

    -- ---- an end

    left_by : (e : Config (Memory Plain)) → IsTurn (ops G) G.code d (Stopped machine.Ends e) → Left_by e
    left_by e is = turns_well machine.Ends e is

    module _ (b : Birth) (born : u.births.birth i ≡ Some b) (left : ℕ) (dd : Config (Memory Plain))
        (joins : u.condition b.parent ≡ sys.Joins left dd) (e : Config (Memory Plain))
        (is : IsTurn (ops G) G.code d (Stopped machine.Ends e)) where
      lt : i < u.births.processes
      lt = here at_stop

      above : (k : ℕ) → i ≡ k → 0 < i
      above zero h = absurd (none-some b (sym l.began.root.0 ∙ ap (λ y. u.births.birth y) (sym h) ∙ born))
      above (suc k) h = omega (arith, h)

      of : Born u.births i
      of = l.began.born i (above i refl) lt

      of_is : of.birth ≡ b
      of_is = same_Some of.birth b (sym of.birth_is ∙ born)

      older : b.parent < i
      older = subst (λ (y : Birth). y.parent < i) of_is of.older

      abbrev parent : Name
      parent = G.births.name b.parent

      name_is : v ≡ (b.fork, b.child) ∷ parent
      name_is = sym (l.began.names i lt) ∙ of.named ∙ ap (λ (y : Birth). (y.fork, y.child) ∷ u.births.name y.parent)
          of_is
          ∙ ap (λ (y : Name). (b.fork, b.child) ∷ y) (l.began.names b.parent (omega (arith, older, lt)))

      does : Performs_all G lv parent c s (u.births.opens b.parent) (sys.Joins left dd)
      does = subst (λ y. Performs_all G lv parent c s (u.births.opens b.parent) y) joins
          (l.does b.parent (omega (arith, older, lt)))

      live : IsLive (s.condition ((b.fork, b.child) ∷ parent))
      live = subst (λ y. IsLive (s.condition y)) name_is
          (working_lives s.condition v (s.condition v) (pr at_stop) (runs_as_pr at_stop))

      joins_at : JoinsAt {O = Process} {V = LocationContent} {T = Address} b.fork b.child (Joins does.0 does.1 does.2)
      joins_at = let (_, _, _, joining, _, _, _) = does in
          subst (λ y. JoinsAt {O = Process} {V = LocationContent} {T = Address} b.fork b.child y) joining
          (l.known.sound.joined parent b.fork b.child live)

      name_now : v ≡ (does.0, b.child) ∷ parent
      name_now = name_is ∙ ap (λ y. (y, b.child) ∷ parent) (sym joins_at.0)

      yet : has_ended (s.condition ((does.0, b.child) ∷ parent)) ≡ false
      yet = subst (λ y. has_ended (s.condition y) ≡ false) name_now
          (Rattle.sp_link.proofs.OneChanges.not_ended at_stop)

      abbrev zj : Joined G (lv parent) (λ a1 b1. lv ((a1, b1) ∷ parent)) parent (c.since parent) does.0 does.1 left
          does.2 s dd
      zj = let (_, _, _, _, joined, _, _) = does in joined

      ended : Left_by e
      ended = left_by e is

      abbrev moved_to : List Spot
      moved_to = (lv ((does.0, b.child) ∷ parent)).moved

      moved_here : (store_of e).moved ≡ moved_to
      moved_here = ap (λ (y : Plain). y.moved) ended.store_is ∙ ended.stands.moved_is ∙ ap (λ y. (lv y).moved) name_now

      stood : St G (lv ((does.0, b.child) ∷ parent)) (λ a1 b1. lv ((a1, b1) ∷ (does.0, b.child) ∷ parent))
          ((does.0, b.child) ∷ parent) (pr at_stop).who (c.since v) (lv ((does.0, b.child) ∷ parent)).below
          ended.own ended.store ended.memory
      stood = subst (λ y. St G (lv y) (λ a1 b1. lv ((a1, b1) ∷ y)) y (pr at_stop).who (c.since v)
          (lv y).below ended.own ended.store ended.memory) name_now ended.stands

      held_there : (a : Spot) → In a moved_to → IsHeld (fin.get (ended.memory).store.map a)
      held_there a h = ⊎_elim
          (λ x. (let y = stood.position (inr x.0) in
          subst (λ k. IsHeld (fin.get (ended.memory).store.map k)) (sym x.1) (held_of_cells _ _ y.2)))
          (⊎_elim
          (λ x. (let y = stood.output (inr x.0) in
          subst (λ k. IsHeld (fin.get (ended.memory).store.map k)) (sym x.1) (bytes_held _ _ y.2)))
          (λ x. (let (owner, height, variable, own_or_given, may, spot_is) = x in
          let y = stood.held owner height variable own_or_given may in
          subst (λ k. IsHeld (fin.get (ended.memory).store.map k)) (sym spot_is) (held_of_cells _ _ y.piece))))
          ((zj.children b.child (joins_at.1, yet)).kept a h)

      parent_map : (store_of dd).map ≡ zj.held
      parent_map = ap (λ (y : Config (Memory Plain)). (store_of y).map) zj.configuration_is

      pub can_join : CanJoin (store_of dd) (store_of e)
      can_join = record {
        no_frame = ap (λ (y : Plain). y.own) ended.store_is ∙ ended.stands.frames.own_frames ∙ none_made (lv v).below;
        held = λ a h. subst (λ (y : Plain). IsHeld (fin.get y.map a)) (sym ended.store_is)
            (held_there a (subst (λ y. In a y) moved_here h));
        away = λ a h. ap (λ y. fin.get y a) parent_map
            ∙ zj.gone b.child (joins_at.1, yet) a (subst (λ y. In a y) moved_here h);
      }

  -- ---- messages

  -- one that waits with an offer
  waits_message : (ch k : ℕ) (cs : List OneCell) (z : ℕ) (e : Config (Memory Plain)) → z < u.births.processes
      → u.condition z ≡ sys.Waits (machine.Sends ch k cs) e → IsMessage G k cs
  waits_message ch k cs z e lt at =
      of (subst (λ y. Performs_all G lv (G.births.name z) c s (u.births.opens z) y) at (l.does z lt))
    where
      by : (o : Offer Process LocationContent Address)
          (t : ProcessMatches G (lv (G.births.name z)) (λ a b. lv ((a, b) ∷ G.births.name z)) (G.births.name z)
          (c.since (G.births.name z)) o.next s.store e) (g : Payload LocationContent Address)
          → Ca G (lv (G.births.name z)) (λ a b. lv ((a, b) ∷ G.births.name z)) (G.births.name z) t.fresh o.next.who
          t.named (c.since (G.births.name z)) t.js o.channel o.kind g (machine.Sends ch k cs) → IsMessage G k cs
      by o t (Message (Tree w)) (j, entry, stop_is, named, stood) =
          let e1 : o.kind ≡ k = sym (kind_of stop_is) in
          let e2 : cells_in entry ≡ cs = sym (message_of stop_is) in
          subst (λ y. IsMessage G k y) e2 (subst (λ y. IsMessage G y (cells_in entry)) e1 (
            w,
            sent_flat G (lv (G.births.name z)) (λ a b. lv ((a, b) ∷ G.births.name z)) (G.births.name z) o.next.who
                (c.since (G.births.name z)) o.kind (sort G.g.program o.kind) refl w entry stood,
          ))
        where
          kind_of : {a b e f : ℕ} {x y : List OneCell} → machine.Sends a b x ≡ machine.Sends e f y → b ≡ f
          kind_of r = cc r

          message_of : {a b e f : ℕ} {x y : List OneCell} → machine.Sends a b x ≡ machine.Sends e f y → x ≡ y
          message_of r = cc r
      by o t (Message (Position n)) x = absurd x
      by o t (Message (Written bs)) x = absurd x
      by o t (Takes w) x = absurd (no x.2)
        where
          no : {a b e f : ℕ} {x : List OneCell} {y : Ptr} → machine.Sends a b x ≡ machine.Receives e f y → ⊥
          no r = cc r

      of : Performs_all G lv (G.births.name z) c s (u.births.opens z) (sys.Waits (machine.Sends ch k cs) e)
          → IsMessage G k cs
      of (o, waits, t, carries, opens_are, not_laid, owns) = by o t o.payload carries

  waits_room : (ch k : ℕ) (a : Ptr) (z : ℕ) (e : Config (Memory Plain)) → z < u.births.processes
      → u.condition z ≡ sys.Waits (machine.Receives ch k a) e → Takes_well G k a e
  waits_room ch k a z e lt at =
      of (subst (λ y. Performs_all G lv (G.births.name z) c s (u.births.opens z) y) at (l.does z lt))
    where
      by : (o : Offer Process LocationContent Address)
          (t : ProcessMatches G (lv (G.births.name z)) (λ a b. lv ((a, b) ∷ G.births.name z)) (G.births.name z)
          (c.since (G.births.name z)) o.next s.store e) (g : Payload LocationContent Address)
          → Ca G (lv (G.births.name z)) (λ a b. lv ((a, b) ∷ G.births.name z)) (G.births.name z) t.fresh o.next.who
          t.named (c.since (G.births.name z)) t.js o.channel o.kind g (machine.Receives ch k a)
          → HasOwnTarget (machine.Receives ch k a) e → Takes_well G k a e
      by o t (Message (Tree w)) x owns = absurd (no x.2)
        where
          no : {a b e f : ℕ} {x : Ptr} {y : List OneCell} → machine.Receives a b x ≡ machine.Sends e f y → ⊥
          no r = cc r
      by o t (Message (Position n)) x owns = absurd x
      by o t (Message (Written bs)) x owns = absurd x
      by o t (Takes w) (j, target, stop_is, named, kind_is, points, may) owns =
          let e1 : o.kind ≡ k = sym (kind_of stop_is) in
          let e2 : target ≡ a = sym (target_of stop_is) in
          subst (λ (y : Config (Memory Plain)). Takes_well G k a y) (sym t.configuration_is)
          (taken_well G (lv (G.births.name z)) (λ a b. lv ((a, b) ∷ G.births.name z)) (G.births.name z) k w a t.pc
          t.stack t.memory t.stand (kind_is ∙ e1) (subst (λ y. PointsTo G.g.program t.js w y) e2 points) may
          (subst (λ (y : Config (Memory Plain)). IsOwn (fin.get (store_of y).map a.spot)) t.configuration_is owns))
        where
          kind_of : {a b e f : ℕ} {x y : Ptr} → machine.Receives a b x ≡ machine.Receives e f y → b ≡ f
          kind_of r = cc r

          target_of : {a b e f : ℕ} {x y : Ptr} → machine.Receives a b x ≡ machine.Receives e f y → x ≡ y
          target_of r = cc r

      of : Performs_all G lv (G.births.name z) c s (u.births.opens z) (sys.Waits (machine.Receives ch k a) e)
          → Takes_well G k a e
      of (o, waits, t, carries, opens_are, not_laid, owns) = by o t o.payload carries owns

  -- two offers that meet have one type
  one_type : (j k : ℕ) (f : Option Fault) → f ≡ (if j == k then None else Some fault.F7) → f ≡ None → j ≡ k
  one_type j k f e n = go (j == k) refl (sym e ∙ n)
    where
      go : (b : Bool) → j == k ≡ b → (if b then None else Some fault.F7) ≡ None → j ≡ k
      go true h x = eqb-true j k h
      go false h x = absurd (no x)
        where
          no : ◌≡◌ {A = Option Fault} (Some fault.F7) None → ⊥
          no r = cc r

  no_first : (a b : Option Fault) → sys.first_fault a b ≡ None → b ≡ None
  no_first None b e = e
  no_first (Some f) b e = absurd (cc e)

  pub put_by_send : (i z ch k j : ℕ) (a : Ptr) (cs : List OneCell) (d e : Config (Memory Plain))
      → StopsAt (run_is G) u i (machine.Sends ch k cs) d → u.pending ch ≡ Some z
      → u.condition z ≡ sys.Waits (machine.Receives ch j a) e → CanPut (store_of e) a cs
  put_by_send i z ch k j a cs d e st p w =
      let there = has_number G lv c s u l z (sys.Waits (machine.Receives ch j a) e) w (λ r. cc r) in
      let pending : sys.pending_stop u (u.pending ch) ≡ Some (machine.Receives ch j a) =
      ap (λ y. sys.pending_stop u y) p ∙ ap (λ y. sys.stop_of y) w in
      let clash = no_first (sys.limit_of G.g.limits u (machine.Sends ch k cs)) (sys.clash_of u (machine.Sends ch k cs))
      st.fine in
      let kinds : j ≡ k = one_type j k (sys.clash_of u (machine.Sends ch k cs))
      (ap (λ y. sys.clash_by way.Send k y) pending) clash in
      can_put G j a e cs (waits_room ch j a z e there w)
      (subst (λ y. IsMessage G y cs) (sym kinds) (sends_well i st.configuration st.runs ch k cs d st.turn))

  pub put_by_receive : (i z ch k j : ℕ) (a : Ptr) (cs : List OneCell) (d e : Config (Memory Plain))
      → StopsAt (run_is G) u i (machine.Receives ch k a) d → u.pending ch ≡ Some z
      → u.condition z ≡ sys.Waits (machine.Sends ch j cs) e → CanPut (store_of d) a cs
  put_by_receive i z ch k j a cs d e st p w =
      let there = has_number G lv c s u l z (sys.Waits (machine.Sends ch j cs) e) w (λ r. cc r) in
      let pending : sys.pending_stop u (u.pending ch) ≡ Some (machine.Sends ch j cs) = ap (λ y. sys.pending_stop u y) p
      ∙ ap (λ y. sys.stop_of y) w in
      let clash = no_first (sys.limit_of G.g.limits u (machine.Receives ch k a))
      (sys.clash_of u (machine.Receives ch k a)) st.fine in
      let kinds : j ≡ k = one_type j k (sys.clash_of u (machine.Receives ch k a))
      (ap (λ y. sys.clash_by way.Receive k y) pending) clash in
      can_put G k a d cs (takes_well i st.configuration st.runs ch k a d st.turn)
      (subst (λ y. IsMessage G y cs) kinds (waits_message ch j cs z e there w))
