-- A forall forks: each child has a life by the element statement and its place in the code, stands as it is born, with
-- its index, and its parent keeps of it what the join will need (`forall_entry`). Where the machine counts fewer
-- children than the meaning, both pass the limit of processes.
use Rattle.std.proofs.Common.{◌≡◌, ◌⊎◌, inl, inr, ⊎_elim, ℕ, zero, suc, ◌+◌, ◌<◌, ◌≤◌, ℤ, List, [], ◌∷◌, length, Option}
use Rattle.std.proofs.Common.{Some, None, Bool, true, false, min, refl, sym, ap, ◌∙◌, subst, arith}
use Rattle.std.specs.Prelude.{◌+ℤ◌, ◌-ℤ◌, nat_abs, int_lt, nat_lt, pos, IsSome, slice_get}
use Rattle.std.specs.FinMap as fin
use Rattle.std.proofs.lemmas.Bool.{ltb-false}
use Rattle.sp_base.proofs.Facts.{next_is_within}
use Rattle.sp_tree.specs.Plain.{Program, Stmt}
use Rattle.sp_tree.specs.Uses.{ForallOf}
use Rattle.sp_cell.specs.declared.spot.Spot.{Spot}
use Rattle.sp_cell.specs.declared.spot.Handing.{Handing}
use Rattle.sp_cell.specs.Fork.{index_frame, moved_of, shared_of}
use Rattle.sp_cell.specs.Map.{Plain, IsPiece, output_spot}
use Rattle.sp_cell.proofs.Plan.{in_or}
use Rattle.sp_cell.specs.Spots.{In, NotIn}
use Rattle.sp_meaning.specs.Model.{Name}
use Rattle.sp_meaning.specs.LocalWork.{Loc, Output, OfIndex, LocalState, Identity, Frame, Computed, Item, Process}
use Rattle.sp_meaning.specs.Actions.{Birth, Forked, new_process, new_processes, push, indexed_children}
use Rattle.sp_meaning.specs.Rights.{Aimed, Used, Born}
use Rattle.sp_meaning.specs.Run.{Store}
use Rattle.sp_meaning.specs.Turn as source
use Rattle.sp_meaning.proofs.Children.{AimedAt, UsedAt}
use Rattle.sp_meaning.proofs.Rights.{OwnOrGiven}
use Rattle.sp_meaning.proofs.SoundParts.{copies, born_copies, element_sound}
use Rattle.sp_code.specs.declared.code.ChildTable.{ChildTable}
use Rattle.sp_code.specs.TreeCode.{child_table}
use Rattle.sp_code.specs.Machine.{At, values_in}
use Rattle.sp_code.specs.Memory.{Memory}
use Rattle.sp_code.specs.Memory as mem
use Rattle.sp_code.specs.Places.{after_statement}
use Rattle.sp_code.specs.PlainStore.{plain}
use Rattle.sp_code.specs.Scopes.{Scope}
use Rattle.sp_code.specs.Sound.{CanSplit}
use Rattle.sp_code.specs.Scopes as places
use Rattle.sp_code.specs.Tables.{child_at}
use Rattle.sp_code.specs.System.{handing_of, child_or, table_or}
use Rattle.sp_code.specs.System as sys
use Rattle.sp_codegen.proofs.Numbers.{next_small}
use Rattle.sp_codegen.specs.FramePairs.{FramePair, sources}
use Rattle.sp_codegen.specs.ProcessInfos.{Seen}
use Rattle.sp_codegen.proofs.ChildIndexes.{indexed_is}
use Rattle.sp_codegen.proofs.FramePairs.{sources_length}
use Rattle.sp_link.proofs.EachStands as each
use Rattle.sp_link.proofs.Forks as fk
use Rattle.sp_link.proofs.OneChanges.{q}
use Rattle.sp_code.proofs.Plans.{none_distinct, moved_by, shared_by}
use Rattle.sp_link.proofs.Pauses.{Entry_of, Meant, Kept_to}
use Rattle.sp_link.proofs.Relation.{BirthRights, W_of, R_of, Called, Fresh, ProcessMatches}
use Rattle.sp_link.proofs.Relation.{Handed, St}
use Rattle.sp_link.proofs.Relation.{run_is}
use Rattle.sp_link.proofs.Newborns.{newborns_length, cons}
use Rattle.sp_link.proofs.Relation.{AtStop}
use Rattle.sp_link.proofs.Pauses.{MatchesNow, running, ForksAt}
use Rattle.sp_link.proofs.MachineStops.{ForallStop}

-- a range that is not empty has a value, one child each
some_value : (lo hi : ℤ) → int_lt hi lo ≡ false → 1 ≤ nat_abs ((hi -ℤ lo) +ℤ pos 1)
some_value lo hi e = far (hi -ℤ lo) (apart lo hi e)
  where
    apart : (lo hi : ℤ) → int_lt hi lo ≡ false → int_lt (hi -ℤ lo) (pos 0) ≡ false
    apart lo hi e = Prim.grind (arith, e)

    far : (a : ℤ) → int_lt a (pos 0) ≡ false → 1 ≤ nat_abs (a +ℤ pos 1)
    far a e = Prim.grind (arith, e)

pub indexed_length : (x : ℕ) (st : Stmt) (low : ℤ) (n : ℕ) → length (indexed_children x st low n) ≡ n
indexed_length x st low zero = refl
indexed_length x st low (suc n) = ap suc (indexed_length x st (low +ℤ pos 1) n)

cut : (m : ℕ) → min m 18446744073709551615 ≤ m
cut m = omega arith

whole : (m : ℕ) → min m 18446744073709551615 ≤ 4294967295 → min m 18446744073709551615 ≡ m
whole m h = omega (arith, h)

module _ (at_stop : AtStop) (z : MatchesNow at_stop)
    (bs : List Birth) (todo : List Item) (o : LocalState) (m : Store)
    (x : Meant at_stop z (Computed (source.Stops (Forked bs todo)) o, m))
    (t : ForksAt at_stop z bs todo o m)
    (y : Kept_to at_stop z (Computed (source.Stops (Forked bs todo)) o, m)) (no_fault : at_stop.system.faulted ≡ false)
    (h : ForallStop (running at_stop z) t.frames bs t.stop) where
  open at_stop use {
    run as G,
    lives as lv,
    course as c,
    state as s,
    system as u,
    number as i,
    configuration as d,
  }

  abbrev v : Name
  v = q at_stop

  abbrev p : Program
  p = G.g.program

  -- the index, the element statement and its code
  abbrev ix : ℕ
  ix = h.index

  abbrev st : Stmt
  st = h.body

  abbrev pub lo : ℤ
  lo = h.low

  abbrev entry : ℕ
  entry = h.start

  abbrev sc : List Scope
  sc = h.scopes

  abbrev inside : List Scope
  inside = places.OfIndex ix ∷ sc

  -- how many values the range has, and how many the machine counts
  abbrev range : ℕ
  range = nat_abs ((h.high -ℤ lo) +ℤ pos 1)

  abbrev pub n : ℕ
  n = values_in lo h.high

  length_is : length bs ≡ range
  length_is = ap (λ b. length b) h.births_are ∙ indexed_length ix st lo range

  pub some : 1 ≤ length bs
  some = let a = some_value lo h.high h.not_empty in omega (arith, a, length_is)

  abbrev k : ℕ
  k = x.state.forks v

  abbrev pub n1 : Memory Plain
  n1 = record (t.memory) { since = t.memory.ticks }

  abbrev w1 : Identity
  w1 = record (x.left.who) { forks = x.left.who.forks + 1 }

  frames_are : o.frames ≡ sources t.frames
  frames_are = t.stand.frames.sources_are

  may_fork : o.depth + 1 ≤ G.g.limits.depth
  may_fork = next_is_within o.depth G.g.limits.depth t.may_nest

  abbrev table : ChildTable
  table = child_table p G.moves G.shares entry (Some ix) st

  abbrev handing_at : ℕ → Handing
  handing_at b = handing_of G.code.layouts n1.frames lo b table

  -- the frame of the index of child b, which is the process of this number
  abbrev index_joint : ℕ → ℕ → FramePair
  index_joint b number = record {
    source = record {
      owner = (k, b) ∷ v;
      number = length t.frames;
      home = OfIndex ix (lo +ℤ pos b);
      link = length t.frames;
      references = [];
    };
    machine = record {
      owner = number;
      number = index_frame (handing_at b);
      home = mem.OfIndex ix;
      link = length n1.frames;
      references = [];
    };
  }

  -- the life of child b, whose statement is this one
  abbrev life_by : Option Stmt → ℕ → BirthRights
  life_by None b = record { W = λ a. ⊥; R = λ a. ⊥; J = λ a. ⊥; low = 0; born = 0; moved = []; below = []; end = 0 }
  life_by (Some e) b = record {
    W = λ a. Aimed p (sources t.frames) e a;
    R = λ a. Used p (sources t.frames) e a;
    J = λ a. Seen inside (index_joint b (u.births.processes + b) ∷ t.frames) e a;
    low = suc (index_frame (handing_at b));
    born = o.depth + 1;
    moved = (handing_at b).moved;
    below = index_joint b (u.births.processes + b) ∷ t.frames;
    end = after_statement p entry e;
  }

  abbrev new_life : ℕ → BirthRights
  new_life b = life_by (slice_get (copies range st) b) b

  abbrev Aims_by : Option Stmt → Loc → Type 0
  Aims_by a b = AimedAt p (λ a. OwnOrGiven (W_of G lv) v a) (λ a. OwnOrGiven (R_of G lv) v a) o.frames a b

  abbrev Uses_by : Option Stmt → Loc → Type 0
  Uses_by a b = UsedAt p (λ a. OwnOrGiven (W_of G lv) v a) (λ a. OwnOrGiven (R_of G lv) v a) o.frames a b

  to_w : (b : ℕ) (a : Loc) → Aims_by (slice_get (copies range st) b) a → (new_life b).W a
  to_w b a g = go (slice_get (copies range st) b) g
    where
      go : (e : Option Stmt) → Aims_by e a → (life_by e b).W a
      go None g = g
      go (Some e) g = subst (λ f. Aimed p f e a) frames_are g

  from_w : (b : ℕ) (a : Loc) → (new_life b).W a → Aims_by (slice_get (copies range st) b) a
  from_w b a g = go (slice_get (copies range st) b) g
    where
      go : (e : Option Stmt) → (life_by e b).W a → Aims_by e a
      go None g = g
      go (Some e) g = subst (λ f. Aimed p f e a) (sym frames_are) g

  to_r : (b : ℕ) (a : Loc) → Uses_by (slice_get (copies range st) b) a → (new_life b).R a
  to_r b a g = go (slice_get (copies range st) b) g
    where
      go : (e : Option Stmt) → Uses_by e a → (life_by e b).R a
      go None g = g
      go (Some e) g = subst (λ f. Used p f e a) frames_are g

  from_r : (b : ℕ) (a : Loc) → (new_life b).R a → Uses_by (slice_get (copies range st) b) a
  from_r b a g = go (slice_get (copies range st) b) g
    where
      go : (e : Option Stmt) → (life_by e b).R a → Uses_by e a
      go None g = g
      go (Some e) g = subst (λ f. Used p f e a) (sym frames_are) g

  born : Born p (λ a. OwnOrGiven (W_of G lv) v a) (λ a. OwnOrGiven (R_of G lv) v a) o.frames (copies range st) bs
  born = subst (λ f. Born p (λ a. OwnOrGiven (W_of G lv) v a) (λ a. OwnOrGiven (R_of G lv) v a) f (copies range st) bs)
      (sym frames_are)
      (subst (λ b. Born p (λ a. OwnOrGiven (W_of G lv) v a) (λ a. OwnOrGiven (R_of G lv) v a) (sources t.frames)
      (copies range st) b)
      (sym h.births_are)
      (born_copies ix st (element_sound ix h.from h.to st h.placed.sound) (h.placed.sound.kept (ForallOf ix st)
      (inl refl)).1 lo
      range))

  -- each of the children does the one statement
  copy_at : (m j : ℕ) → j < m → slice_get (copies m st) j ≡ Some st
  copy_at zero j lt = absurd (omega (arith, lt))
  copy_at (suc m) zero lt = refl
  copy_at (suc m) (suc j) lt = copy_at m j (omega (arith, lt))

  life_is : (j : ℕ) → j < range → new_life j ≡ life_by (Some st) j
  life_is j lt = ap (λ a. life_by a j) (copy_at range j lt)

  -- and each has the table's one entry
  table_is : (j : ℕ) → child_or (child_at (table_or (slice_get G.code.forks h.table)) j) ≡ table
  table_is j = ap (λ a. child_or (child_at (table_or a) j)) h.table_is

  -- its parent's memory
  stood : St G (lv v) (λ a b. lv ((a, b) ∷ v)) v w1 t.memory.ticks t.frames o x.state.store n1
  stood = fk.parent_stand at_stop z bs todo o m x t y no_fault h.table lo n h.stop_is some t.memory.ticks refl

  longer : (j : ℕ) → suc (length w1.name) ≤ length ((k, j) ∷ v)
  longer j = let a = ap (λ (a : Name). length a) x.good.named in omega (arith, a)

  module _ (more : ℕ → ℕ → BirthRights) where
    abbrev fresh : Fresh G (lv v) more v
    fresh = record { based = z.fresh.based; reads = z.fresh.reads; low_small = z.fresh.low_small; ends = z.fresh.ends }

    module _ (j : ℕ) where
      kept_of_it : j < range → Handed G (lv v) more v t.frames n1 (new_life j) ((k, j) ∷ v)
      kept_of_it lt = subst (λ (lf : BirthRights). Handed G (lv v) more v t.frames n1 lf ((k, j) ∷ v))
          (sym (life_is j lt))
          (each.each_handed G (lv v) more v fresh stood may_fork ix h.from h.to st sc h.placed entry h.body_stands
          h.ends ((k, j) ∷ v)
          (longer j) lo j (u.births.processes + j))

      shares_known : (a : Spot) → In a (handing_at j).shared → IsSome (fin.get n1.store.map a)
      shares_known a f = each.shares_known G (lv v) more v fresh stood may_fork ix h.from h.to st sc h.placed entry
          h.body_stands h.ends
          ((k, j) ∷ v) (longer j) lo j a f

      shares_piece : (a : Spot) → In a (handing_at j).shared → IsPiece (fin.get n1.store.map a)
      shares_piece a f = each.shares_piece G (lv v) more v fresh stood may_fork ix h.from h.to st sc h.placed entry
          h.body_stands h.ends
          ((k, j) ∷ v) (longer j) lo j a f

      output_stays : OwnOrGiven (R_of G lv) v Output → In output_spot (handing_at j).shared → ⊥
      output_stays may f = each.output_stays G (lv v) more v fresh stood may_fork ix h.from h.to st sc h.placed entry
          h.body_stands h.ends
          ((k, j) ∷ v) (longer j) lo j may f

      nothing_moves : (a : Spot) → In a (handing_at j).moved → ⊥
      nothing_moves a f = each.nothing_moves G (lv v) more v fresh stood may_fork ix h.from h.to st sc h.placed entry
          h.body_stands h.ends
          ((k, j) ∷ v) (longer j) lo j a f

      -- and it stands as it is born
      process_is : (b : Birth) → slice_get bs j ≡ Some b
          → new_process x.left.who o j b ≡ each.own G (lv v) more v fresh stood may_fork ix h.from h.to st sc h.placed
          entry h.body_stands
          h.ends ((k, j) ∷ v) (longer j) lo j (u.births.processes + j)
      process_is b e = ap (λ a. new_process x.left.who o j a)
          (indexed_is ix st lo range j b (ap (λ a. slice_get a j) (sym h.births_are) ∙ e))
          ∙ ap (λ (a : Name). record {
            todo = push st [];
            who = record { name = a; forks = 0; opens = 0 };
            own = record {
              frames = record {
                owner = a;
                number = length o.frames;
                home = OfIndex ix (lo +ℤ pos j);
                link = length o.frames;
                references = [];
              } ∷ o.frames;
              depth = o.depth + 1;
              ticks = 0;
              cells = 0;
            };
          })
          (ap (λ a. cons (a, j) x.left.who.name)
          (fk.counted at_stop z bs todo o m x t y no_fault h.table lo n h.stop_is some)
          ∙ ap (λ a. cons (k, j) a) x.good.named)
          ∙ ap (λ (f : List Frame). with_frames f (length f)) frames_are
          ∙ ap (λ a. with_frames (sources t.frames) a) (sources_length t.frames)
        where
          with_frames : List Frame → ℕ → Process
          with_frames f a = record {
            todo = push st [];
            who = record { name = (k, j) ∷ v; forks = 0; opens = 0 };
            own = record {
              frames = record {
                owner = (k, j) ∷ v;
                number = a;
                home = OfIndex ix (lo +ℤ pos j);
                link = a;
                references = [];
              } ∷ f;
              depth = o.depth + 1;
              ticks = 0;
              cells = 0;
            };
          }

      it_stands : j < range → (b : Birth) → slice_get bs j ≡ Some b → Called G ((k, j) ∷ v) (u.births.processes + j)
          → (own_more : ℕ → ℕ → BirthRights)
          → ProcessMatches G (new_life j) own_more ((k, j) ∷ v) 0 (new_process x.left.who o j b) x.state.store
          (sys.child_process plain (run_is G) (At t.pc t.stack n1) lo (u.births.processes + j) j
          (child_or (child_at (table_or (slice_get G.code.forks h.table)) j)))
      it_stands lt b e called own_more =
          subst (λ (lf : BirthRights). ProcessMatches G lf own_more ((k, j) ∷ v) 0 (new_process x.left.who o j b)
          x.state.store
          (sys.child_process plain (run_is G) (At t.pc t.stack n1) lo (u.births.processes + j) j
          (child_or (child_at (table_or (slice_get G.code.forks h.table)) j)))) (sym (life_is j lt))
          (subst (λ a. ProcessMatches G (life_by (Some st) j) own_more ((k, j) ∷ v) 0 a x.state.store
          (sys.child_process plain (run_is G) (At t.pc t.stack n1) lo (u.births.processes + j) j
          (child_or (child_at (table_or (slice_get G.code.forks h.table)) j)))) (sym (process_is b e))
          (subst (λ a. ProcessMatches G (life_by (Some st) j) own_more ((k, j) ∷ v) 0
          (each.own G (lv v) more v fresh stood may_fork ix h.from h.to st sc h.placed entry h.body_stands h.ends
          ((k, j) ∷ v)
          (longer j) lo j (u.births.processes + j)) x.state.store
          (sys.child_process plain (run_is G) (At t.pc t.stack n1) lo (u.births.processes + j) j a)) (sym (table_is j))
          (each.each_stands G (lv v) more v fresh stood may_fork ix h.from h.to st sc h.placed entry h.body_stands
          h.ends ((k, j) ∷ v)
          (longer j) lo j (u.births.processes + j) called t.pc t.stack own_more)))

  -- no children of the parent's own matter here
  abbrev none : ℕ → ℕ → BirthRights
  none a b = lv ((a, b) ∷ v)

  abbrev pub hs : List Handing
  hs = fk.hs at_stop z bs todo o m x t y no_fault h.table lo n h.stop_is some

  -- nothing moves
  unmoved : (a : Spot) → In a (moved_of hs) → ⊥
  unmoved a g =
      let w = moved_by G.code.layouts n1.frames (table_or (slice_get G.code.forks h.table)) lo n a g in
      nothing_moves none w.0 a (subst (λ tb. In a (handing_of G.code.layouts n1.frames lo w.0 tb).moved) (table_is w.0)
      w.2)

  known : (a : Spot) → In a (moved_of hs) ⊎ In a (shared_of hs) → IsSome (fin.get n1.store.map a)
  known a (inl g) = absurd (unmoved a g)
  known a (inr g) =
      let w = shared_by G.code.layouts n1.frames (table_or (slice_get G.code.forks h.table)) lo n a g in
      shares_known none w.0 a (subst (λ tb. In a (handing_of G.code.layouts n1.frames lo w.0 tb).shared) (table_is w.0)
      w.2)

  dry : OwnOrGiven (R_of G lv) v Output → NotIn output_spot (shared_of hs)
  dry may = ⊎_elim (λ g. absurd (wet g)) (λ g. g) (in_or output_spot (shared_of hs))
    where
      wet : In output_spot (shared_of hs) → ⊥
      wet g =
          let w = shared_by G.code.layouts n1.frames (table_or (slice_get G.code.forks h.table)) lo n output_spot g in
          output_stays none w.0 may (subst (λ tb. In output_spot (handing_of G.code.layouts n1.frames lo w.0 tb).shared)
          (table_is w.0) w.2)

  -- ---- what it hands over

  pub can_split : CanSplit n1.store hs
  can_split = record {
    held = λ a g. absurd (unmoved a g);
    pieces = λ a g.
        (let w = shared_by G.code.layouts n1.frames (table_or (slice_get G.code.forks h.table)) lo n a g in
        shares_piece none w.0 a (subst (λ tb. In a (handing_of G.code.layouts n1.frames lo w.0 tb).shared)
        (table_is w.0) w.2));
    distinct = none_distinct (moved_of hs) unmoved;
    apart = λ a g. absurd (unmoved a g);
    number = λ g.
        (let a = next_small n1.store (lv v).low
        (length (lv v).below) t.frames stood.frames.own_frames stood.frames.counts stood.known in
        let b = stood.frames.deep in let e = stood.frames.shallow in let r = G.limits.depth in
        let w = z.fresh.low_small in
        let b0 = stood.frames.above_base in omega (arith, a, b, e, r, w, b0));
  }

  pub forall_entry : Entry_of G c s u i d
  forall_entry = by (nat_lt G.g.limits.entries (u.entries + 1)) (nat_lt G.g.limits.processes (u.births.processes + n))
      refl refl
    where
      os_are : length (new_processes x.left.who o 0 bs) ≡ range
      os_are = newborns_length x.left.who o 0 bs ∙ length_is

      -- the meaning counts no fewer
      both_many : nat_lt G.g.limits.processes (u.births.processes + n) ≡ true
          → nat_lt G.g.limits.processes (u.births.processes + length (new_processes x.left.who o 0 bs)) ≡ true
      both_many e = fk.is_less G.g.limits.processes (u.births.processes + length (new_processes x.left.who o 0 bs))
          (let a = next_is_within G.g.limits.processes (u.births.processes + n) e in let b = cut range in
          omega (arith, a, b, os_are))

      -- and as many where they are within the limit
      count_is : nat_lt G.g.limits.processes (u.births.processes + n) ≡ false → length bs ≡ n
      count_is e = length_is ∙ sym (whole range
          (let a = ltb-false G.g.limits.processes (u.births.processes + n) e in let b = G.limits.processes in
          omega (arith, a, b)))

      few : length bs ≡ n → (j : ℕ) → j < n → j < range
      few e j lt = omega (arith, e, lt, length_is)

      unmoving : length bs ≡ n → (j : ℕ) → j < n → (a : Spot) → In a (new_life j).moved → ⊥
      unmoving e j lt a g =
          nothing_moves none j a (subst (λ (lf : BirthRights). In a lf.moved) (life_is j (few e j lt)) g)

      by : (e1 e2 : Bool) → nat_lt G.g.limits.entries (u.entries + 1) ≡ e1
          → nat_lt G.g.limits.processes (u.births.processes + n) ≡ e2 → Entry_of G c s u i d
      by true e2 h1 h2 = fk.over_entry at_stop z bs todo o m x t y no_fault h.table lo n h.stop_is some h1
      by false true h1 h2 = fk.many_entry at_stop z bs todo o m x t y no_fault h.table lo n h.stop_is some h1
          (both_many h2) h2
      by false false h1 h2 = fk.fork_entry at_stop z bs todo o m x t y no_fault h.table lo n h.stop_is some h1 h2
          (count_is h2) (copies range st) born new_life to_w from_w to_r from_r known dry (λ a g. absurd (unmoved a g))
          (λ j lt a g. absurd (unmoving (count_is h2) j lt a g)) (λ a g. absurd (unmoved a g))
          (λ a b la lb ne e g k1. unmoving (count_is h2) a la e g)
          (λ more j lt. kept_of_it more j (few (count_is h2) j lt))
          (λ more j lt b e called. it_stands none j (few (count_is h2) j lt) b e called more)
