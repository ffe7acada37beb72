-- All other processes stay as they are where one writes only what it may write (`does_stay`): who runs or waits reads
-- nothing of it, since parallel processes are disjoint; who joins has it away with the child that is above the writer.
use Rattle.std.proofs.Common.{◌≡◌, ◌⊎◌, inl, inr, ⊎_elim, ℕ, zero, suc, ◌+◌, List, [], ◌∷◌, Some}
use Rattle.std.proofs.Common.{None, true, false, ◌&&◌, if◌then◌else◌, refl, sym, ap, ◌∙◌, subst}
use Rattle.std.specs.Prelude.{◌≢◌}
use Rattle.sp_cell.specs.declared.spot.Spot.{Spot}
use Rattle.sp_cell.specs.Map.{Map, Plain}
use Rattle.sp_meaning.specs.Model.{Name, Condition, Absent, Works, Waits, Joins, Ended}
use Rattle.sp_meaning.specs.Steps.{own_part_in, has_ended, all_ended, IsAlive as IsLive, JoinsAt, Sound}
use Rattle.sp_meaning.specs.Disjoint.{AreParallel}
use Rattle.sp_meaning.specs.LocalWork.{Loc, Cell, Input, Output, LocationContent, Address, LocalState, Process}
use Rattle.sp_meaning.specs.Run.{Store}
use Rattle.sp_meaning.specs.Runs.{StateOf}
use Rattle.sp_meaning.specs.Along.{JournalState}
use Rattle.sp_meaning.proofs.Rights.{OwnLocation, OwnOrGiven, Fair_rights, parallel_apart}
use Rattle.sp_meaning.proofs.Parallel.{IsAlone, alone_lives, ancestors_live}
use Rattle.sp_code.specs.Machine.{Config, At}
use Rattle.sp_code.specs.Memory.{Memory}
use Rattle.sp_code.specs.System as sys
use Rattle.sp_codegen.specs.FramePairs.{FramePair}
use Rattle.sp_codegen.proofs.Joins.{Joining, stand_same, joining_same}
use Rattle.sp_link.proofs.ParallelOrBelow.{Under, stance, child_writes}
use Rattle.sp_link.proofs.Relation.{RunContext, BirthRights, RightsOfAll, W_of, R_of, Called, Named, ProcessMatches}
use Rattle.sp_link.proofs.Relation.{Joined, Lives_yet}
use Rattle.sp_link.proofs.Relation.{left_of, OutputMatches, Performs_all}

-- ---- what is away may be told otherwise

module _ (G : RunContext) (lf : BirthRights) (kids : ℕ → ℕ → BirthRights) (q : Name) where
  abbrev pub Jo : Rattle.sp_meaning.specs.LocalWork.Identity → ℕ → (Spot → Type 0) → List FramePair → LocalState → Store
      → Memory Plain → Map
      → Type 0
  Jo w since A js o s n mp = Joining G.g G.code w (Named G) (Called G) (λ l. OwnLocation q l ⊎ lf.W l)
      (λ l. OwnLocation q l ⊎ lf.R l)
      lf.J lf.low (Rattle.std.specs.Prelude.length lf.below) lf.born since G.pause lf.moved A js o s n mp

  pub joining_more : {w : Rattle.sp_meaning.specs.LocalWork.Identity} {since : ℕ} {A B : Spot → Type 0}
      {js : List FramePair} {o : LocalState}
      {s : Store} {n : Memory Plain} {mp : Map} → ((a : Spot) → A a → B a) → Jo w since A js o s n mp
      → Jo w since B js o s n mp
  joining_more f t = record {
    store = t.store;
    before = t.before;
    known = t.known;
    unaway = λ a e. f a (t.unaway a e);
    held = λ r h x l m. ⊎_elim (λ a. inl (f _ a)) (λ z. inr z) (t.held r h x l m);
    indexes = λ h k j rest x v e i. ⊎_elim (λ a. inl (f _ a)) (λ z. inr z) (t.indexes h k j rest x v e i);
    position = λ m. ⊎_elim (λ a. inl (f _ a)) (λ z. inr z) (t.position m);
    output = λ m. ⊎_elim (λ a. inl (f _ a)) (λ z. inr z) (t.output m);
  }

-- ---- conditions

waits_is : (c : Condition Process LocationContent Address)
    (o : Rattle.sp_meaning.specs.Model.Offer Process LocationContent Address)
    → c ≡ Waits o → Rattle.sp_meaning.specs.Steps.WaitsOn o.channel c
waits_is c o e = subst (λ z. Rattle.sp_meaning.specs.Steps.WaitsOn o.channel z) (sym e) refl

module _ (G : RunContext) (lv : RightsOfAll G) (s t : StateOf G.g) (sound : Sound s)
    (fair : Fair_rights (W_of G lv) (R_of G lv))
    (w : Name) (alone : IsAlone s w) (stays : (l : Loc) → (t.store l ≡ s.store l) ⊎ OwnOrGiven (W_of G lv) w l) where
  module _ (r : Name) (apart : r ≢ w) (same : t.condition r ≡ s.condition r)
      (ended : (k i : ℕ) → has_ended (t.condition ((k, i) ∷ r)) ≡ has_ended (s.condition ((k, i) ∷ r)))
      (present : (k i : ℕ) → s.condition ((k, i) ∷ r) ≢ Absent → t.condition ((k, i) ∷ r) ≢ Absent) where
    abbrev pub kids : ℕ → ℕ → BirthRights
    kids k i = lv ((k, i) ∷ r)

    all_same : (k n : ℕ) → all_ended t.condition r k n ≡ all_ended s.condition r k n
    all_same k zero = refl
    all_same k (suc i) = ap (λ b. b && all_ended t.condition r k i) (ended k i)
        ∙ ap (λ b. has_ended (s.condition ((k, i) ∷ r)) && b) (all_same k i)

    works_same : (c : Condition Process LocationContent Address) → own_part_in t.condition r c
        ≡ own_part_in s.condition r c
    works_same (Joins k n o) = ap (λ b. if b then Some o else None) (all_same k n)
    works_same _ = refl

    pub working_same : (pr : Process) → own_part_in s.condition r (s.condition r) ≡ Some pr
        → own_part_in t.condition r (t.condition r) ≡ Some pr
    working_same pr e = ap (own_part_in t.condition r) same ∙ works_same (s.condition r) ∙ e

    left_same : (k n : ℕ) → left_of G (lv r) kids r t.condition k n ≡ left_of G (lv r) kids r s.condition k n
    left_same k zero = refl
    left_same k (suc i) = ap (λ b. (if b then 0 else 1) + left_of G (lv r) kids r t.condition k i) (ended k i)
        ∙ ap (λ n. (if has_ended (s.condition ((k, i) ∷ r)) then 0 else 1) + n) (left_same k i)

    -- of one that runs or waits
    pub unread : IsAlone s r → (l : Loc) → OwnOrGiven (R_of G lv) r l → t.store l ≡ s.store l
    unread one l may = ⊎_elim (λ e. e) (λ (x : OwnOrGiven (W_of G lv) w l). absurd (⊎_elim
        (λ (p : AreParallel w r). parallel_apart (W_of G lv) (R_of G lv) fair w r p l x may)
        (λ (u : Under s w r). Rattle.sp_meaning.proofs.Parallel.alone_childless s r u.fork u.child one u.lives u.joins)
        (stance s w r sound alone (alone_lives s r one) apart))) (stays l)

    abbrev pub stands_stay : (since : ℕ) (pr : Process) (d : Config (Memory Plain)) → IsAlone s r
        → ProcessMatches G (lv r) kids r since pr s.store d → ProcessMatches G (lv r) kids r since pr t.store d
    stands_stay since pr d one z = record {
      fresh = z.fresh;
      named = z.named;
      js = z.js;
      pc = z.pc;
      stack = z.stack;
      memory = z.memory;
      configuration_is = z.configuration_is;
      stand = stand_same G.g G.code pr.who (Named G) (Called G) (λ l. OwnLocation r l ⊎ (lv r).W l)
          (λ l. OwnLocation r l ⊎ (lv r).R l) (lv r).J (lv r).low (Rattle.std.specs.Prelude.length (lv r).below)
          (lv r).born
          since G.pause (lv r).moved z.stand t.store (unread one);
      follows = z.follows;
    }

    told_stay : (d : Config (Memory Plain)) → (OwnOrGiven (R_of G lv) r Output → t.store Output ≡ s.store Output)
        → OutputMatches G (lv r) kids r s.store d → OutputMatches G (lv r) kids r t.store d
    told_stay (At pc st n) e h = λ may. let z = h may in (z.0, e may ∙ z.1, z.2)

    -- of one that joins
    module _ (since k n left : ℕ) (pr : Process) (d : Config (Memory Plain)) (at : s.condition r ≡ Joins k n pr)
        (z : Joined G (lv r) kids r since k n left pr s d) where
      abbrev Moves : Loc → Type 0
      Moves l = (i : ℕ) × Lives_yet G (lv r) kids r s k n i × (kids k i).W l

      moves_or_same : (l : Loc) → OwnOrGiven (R_of G lv) r l → Moves l ⊎ (t.store l ≡ s.store l)
      moves_or_same l may = ⊎_elim (λ e. inr e) (λ (x : OwnOrGiven (W_of G lv) w l). ⊎_elim
          (λ (p : AreParallel w r). absurd (parallel_apart (W_of G lv) (R_of G lv) fair w r p l x may))
          (λ (u : Under s w r). inl (under u
          (child_writes (W_of G lv) (R_of G lv) fair u.front r u.fork u.child l
          (subst (λ y. OwnOrGiven (W_of G lv) y l) u.name_is x) may)))
          (stance s w r sound alone (subst (λ y. IsLive y) (sym at) tt) apart)) (stays l)
        where
          lives_not : (x : Condition Process LocationContent Address) → IsLive x → has_ended x ≡ false
          lives_not Absent h = absurd h
          lives_not (Works o) h = refl
          lives_not (Waits o) h = refl
          lives_not (Joins a b o) h = refl
          lives_not Ended h = absurd h

          under : (u : Under s w r) → W_of G lv ((u.fork, u.child) ∷ r) l → Moves l
          under u x =
              let j : JoinsAt {O = Process} {V = LocationContent} {T = Address} u.fork u.child (Joins k n pr) =
              subst (λ y. JoinsAt {O = Process} {V = LocationContent} {T = Address} u.fork u.child y) at u.joins in (
                u.child,
                (
                  j.1,
                  ap (λ y. has_ended (s.condition ((y, u.child) ∷ r))) j.0
                      ∙ lives_not (s.condition ((u.fork, u.child) ∷ r)) u.lives,
                ),
                subst (λ y. W_of G lv ((y, u.child) ∷ r) l) (sym j.0) x,
              )

      yet : (i : ℕ) → Lives_yet G (lv r) kids r s k n i → Lives_yet G (lv r) kids r t k n i
      yet i h = (h.0, ended k i ∙ h.1)

      back : (i : ℕ) → Lives_yet G (lv r) kids r t k n i → Lives_yet G (lv r) kids r s k n i
      back i h = (h.0, sym (ended k i) ∙ h.1)

      pub joined_stay : Joined G (lv r) kids r since k n left pr t d
      joined_stay = record {
        fresh = z.fresh;
        named = z.named;
        js = z.js;
        pc = z.pc;
        stack = z.stack;
        memory = z.memory;
        held = z.held;
        configuration_is = z.configuration_is;
        joining = joining_more G (lv r) kids r (λ a h. (h.0, yet h.0 h.1, h.2))
            (joining_same G.g G.code pr.who (Named G) (Called G) (λ l. OwnLocation r l ⊎ (lv r).W l)
            (λ l. OwnLocation r l ⊎ (lv r).R l) (lv r).J (lv r).low (Rattle.std.specs.Prelude.length (lv r).below)
            (lv r).born since G.pause (lv r).moved z.joining t.store
            (λ q h x l may. ⊎_elim (λ m. inl (m.0, m.1, (z.children m.0 m.1).aims q h x l m.2)) (λ e. inr e)
            (moves_or_same (Cell q h x) may))
            (λ may. ⊎_elim (λ m. inl (m.0, m.1, (z.children m.0 m.1).input_aims m.2)) (λ e. inr e)
            (moves_or_same Input may))
            (λ may. ⊎_elim (λ m. inl (m.0, m.1, (z.children m.0 m.1).output_aims m.2)) (λ e. inr e)
            (moves_or_same Output may)));
        follows = z.follows;
        count = z.count ∙ sym (left_same k n);
        some = z.some;
        there = λ i h. present k i (z.there i h);
        children = λ i h. z.children i (back i h);
        gone = λ i h. z.gone i (back i h);
        parted = λ i j h g. z.parted i j (back i h) (back j g);
      }

    -- whatever it does
    pub does_stay : (c c1 : JournalState) → c1.since r ≡ c.since r → c1.laid r ≡ c.laid r
        → (c.faulted ≡ true → c1.faulted ≡ true) → (opens : ℕ) (x : sys.Condition Plain)
        → Performs_all G lv r c s opens x → Performs_all G lv r c1 t opens x
    does_stay c c1 si la fa opens sys.Absent h = h
    does_stay c c1 si la fa opens (sys.Working d) (pr, runs, stands, opens_are, not_laid) = (
      pr,
      working_same pr runs,
      ⊎_elim (λ z. inl
          (subst (λ y. ProcessMatches G (lv r) kids r y pr t.store d) (sym si)
          (stands_stay (c.since r) pr d (inl (pr, runs)) z)))
          (λ z. inr (record {
            is_first = z.is_first;
            faults = z.faults;
            is_root = z.is_root;
            configuration_is = z.configuration_is;
            no_room = z.no_room;
            output = told_stay d (unread (inl (pr, runs)) Output) z.output;
          })) stands,
      opens_are,
      la ∙ not_laid,
    )
    does_stay c c1 si la fa opens (sys.Waits y d) (o, waits, t0, carries, opens_are, not_laid, owns) =
        (o, same ∙ waits, z.0, z.1, opens_are, la ∙ not_laid, owns)
      where
        both : (a : ℕ) → a ≡ c.since r → (b : ProcessMatches G (lv r) kids r a o.next t.store d)
            × Rattle.sp_link.proofs.Relation.Ca G (lv r) kids r b.fresh o.next.who b.named a b.js o.channel
            o.kind o.payload y
        both a e = subst (λ a. (b : ProcessMatches G (lv r) kids r a o.next t.store d)
            × Rattle.sp_link.proofs.Relation.Ca G (lv r) kids r b.fresh o.next.who b.named a b.js o.channel
            o.kind o.payload y) (sym e)
            (stands_stay (c.since r) o.next d (inr (o.channel, waits_is (s.condition r) o waits)) t0, carries)

        z : (b : ProcessMatches G (lv r) kids r (c1.since r) o.next t.store d)
            × Rattle.sp_link.proofs.Relation.Ca G (lv r) kids r b.fresh o.next.who b.named (c1.since r) b.js
            o.channel o.kind o.payload y
        z = both (c1.since r) si
    does_stay c c1 si la fa opens (sys.Joins left d) (k, n, pr, joins, joining, opens_are, not_laid) = (
      k,
      n,
      pr,
      same ∙ joins,
      subst (λ y. Joined G (lv r) kids r y k n left pr t d) (sym si)
          (joined_stay (c.since r) k n left pr d joins joining),
      opens_are,
      la ∙ not_laid,
    )
    does_stay c c1 si la fa opens (sys.Laid d) (is_laid, bad, (pr, runs), told) =
        (la ∙ is_laid, fa bad, (pr, working_same pr runs), told_stay d (unread (inl (pr, runs)) Output) told)
    does_stay c c1 si la fa opens sys.Gone h = (same ∙ h.0, h.1)
    does_stay c c1 si la fa opens (sys.Over d) h =
        absurd (subst (λ y. IsLive y) h.0 (subst (λ y. IsLive (s.condition y)) (sym h.1) root_lives))
      where
        root_lives : IsLive (s.condition [])
        root_lives = ancestors_live s sound w []
            (subst (λ y. IsLive (s.condition y)) (sym (Rattle.std.proofs.Common.append-nil w)) (alone_lives s w alone))
