-- A parallel statement forks: each child has a life by its statement and its place in the code, stands as it is born,
-- and its parent keeps of it what the join will need (`parallel_entry`).
use Rattle.std.proofs.Common.{◌≡◌, ◌⊎◌, inl, inr, ⊎_elim, ℕ, zero, suc, ◌+◌, ◌<◌, ◌≤◌, List, [], ◌∷◌, length, Option}
use Rattle.std.proofs.Common.{Some, None, Bool, true, false, refl, sym, ap, ◌∙◌, subst, arith}
use Rattle.std.specs.Prelude.{◌≢◌, nat_lt, pos, IsSome, slice_get}
use Rattle.std.specs.FinMap as fin
use Rattle.sp_base.proofs.Facts.{next_is_within, item_there}
use Rattle.sp_tree.specs.Plain.{Program, Stmt, Stmts, No, And}
use Rattle.sp_tree.specs.Uses.{ParallelOf}
use Rattle.sp_tree.specs.Uses as use_of
use Rattle.sp_cell.specs.declared.spot.Spot.{Spot}
use Rattle.sp_cell.specs.declared.spot.Handing.{Handing}
use Rattle.sp_cell.specs.Fork.{index_frame, moved_of, shared_of}
use Rattle.sp_cell.specs.Map.{Plain, IsPiece, output_spot}
use Rattle.sp_cell.proofs.Plan.{in_or}
use Rattle.sp_cell.specs.Spots.{In, NotIn}
use Rattle.sp_meaning.specs.Model.{Name}
use Rattle.sp_meaning.specs.LocalWork.{Loc, Output, LocalState, Identity, Computed, Item}
use Rattle.sp_meaning.specs.Actions.{Birth, Forked, new_process, push, children}
use Rattle.sp_meaning.specs.Rights.{Aimed, Used, Born}
use Rattle.sp_meaning.specs.Run.{Store}
use Rattle.sp_meaning.specs.Turn as source
use Rattle.sp_meaning.proofs.Children.{AimedAt, UsedAt}
use Rattle.sp_meaning.proofs.Rights.{OwnOrGiven, OwnLocation}
use Rattle.sp_meaning.proofs.Within.{part}
use Rattle.sp_meaning.proofs.SoundParts.{list_of, born_of}
use Rattle.sp_cell.proofs.Laws.{known_of_piece}
use Rattle.sp_code.specs.declared.code.ForkTable.{ForkTable}
use Rattle.sp_code.specs.Machine.{At}
use Rattle.sp_code.specs.Memory.{Memory}
use Rattle.sp_code.specs.PlainStore.{plain}
use Rattle.sp_code.specs.Places.{after_statement}
use Rattle.sp_code.specs.Scopes.{Scope}
use Rattle.sp_code.specs.Sound.{CanSplit}
use Rattle.sp_code.specs.TreeCode.{children_tables, child_table}
use Rattle.sp_code.specs.CodeOfTree.{CodeAt as StandsIn, HasFork, HasWords, ChildrenAt}
use Rattle.sp_code.specs.Tables.{child_at}
use Rattle.sp_code.specs.System.{handing_of, plan_from, child_or, table_or}
use Rattle.sp_code.specs.System as sys
use Rattle.sp_codegen.specs.FramePairs.{sources}
use Rattle.sp_codegen.proofs.ChildIndexes.{ChildIs, Seen, table_at}
use Rattle.sp_codegen.proofs.HandedUses.{shared_piece, output_unshared}
use Rattle.sp_link.proofs.ChildrenStand as cs
use Rattle.sp_link.proofs.Forks as fk
use Rattle.sp_link.proofs.OneChanges.{q}
use Rattle.sp_link.proofs.Pauses.{Entry_of, Meant, Kept_to}
use Rattle.sp_code.proofs.Plans.{moved_by, shared_by, moved_in}
use Rattle.sp_link.proofs.DeclaredUses.{IsScoped, is_scoped}
use Rattle.sp_link.proofs.Splits.{parallel_split, parts_differ}
use Rattle.sp_link.proofs.Relation.{RunContext, BirthRights, W_of, R_of, Called, Named, Fresh}
use Rattle.sp_link.proofs.Relation.{ProcessMatches, Handed, St}
use Rattle.sp_link.proofs.Relation.{run_is}
use Rattle.sp_link.proofs.Newborns.{newborns_length, cons}
use Rattle.sp_link.proofs.Relation.{AtStop}
use Rattle.sp_link.proofs.Pauses.{MatchesNow, running, ForksAt}
use Rattle.sp_link.proofs.MachineStops.{ParallelStop}

-- ---- the children of a parallel statement

-- where the code of child j begins
abbrev entry_at : Program → Stmts → ℕ → ℕ → ℕ
entry_at p No q j = q
entry_at p (And st rest) q zero = q
entry_at p (And st rest) q (suc j) = entry_at p rest (after_statement p q st + 1) j

module _ (G : RunContext) (free : Bool) (sc : List Scope) where
  record Child (ss : Stmts) (q j : ℕ) (b : Birth) : Type 0 where
    pub statement : Stmt
    pub statement_is : slice_get (list_of ss) j ≡ Some statement
    pub child : ChildIs G.g.program G.moves G.shares G.code G.callable free sc ss q j b
    pub child_is : child.statement ≡ statement
    pub entry_is : child.entry ≡ entry_at G.g.program ss q j

  child_here : (ss : Stmts) (q j : ℕ) (b : Birth) → slice_get (children ss) j ≡ Some b
      → ChildrenAt G.g.program G.moves G.shares (StandsIn G.code) (HasFork G.code)
      (HasWords G.code) G.callable free sc q ss
      → Child ss q j b
  child_here No q j b e h = absurd (cc e)
  child_here (And st rest) q zero b e h = record {
    statement = st;
    statement_is = refl;
    child = record {
      statement = st;
      entry = q;
      table = refl;
      birth = sym (cc e);
      body = h.0;
      end = h.1;
      inside = λ u. inl;
    };
    child_is = refl;
    entry_is = refl;
  }
  child_here (And st rest) q (suc j) b e h =
      let z = child_here rest (after_statement G.g.program q st + 1) j b e h.2 in
      record {
        statement = z.statement;
        statement_is = z.statement_is;
        child = record {
          statement = z.child.statement;
          entry = z.child.entry;
          table = z.child.table;
          birth = z.child.birth;
          body = z.child.body;
          end = z.child.end;
          inside = λ u a. inr (z.child.inside u a);
        };
        child_is = z.child_is;
        entry_is = z.entry_is;
      }

  tables_count : (ss : Stmts) (q : ℕ) → length (children ss)
      ≡ length (children_tables G.g.program G.moves G.shares q ss)
  tables_count No q = refl
  tables_count (And st rest) q = ap suc (tables_count rest (after_statement G.g.program q st + 1))

some_part : (ss : Stmts) → ss ≢ No → 1 ≤ length (children ss)
some_part No h = absurd (h refl)
some_part (And st rest) h = omega arith

module _ (at_stop : AtStop) (z : MatchesNow at_stop)
    (bs : List Birth) (todo : List Item) (o : LocalState) (m : Store)
    (x : Meant at_stop z (Computed (source.Stops (Forked bs todo)) o, m))
    (t : ForksAt at_stop z bs todo o m)
    (y : Kept_to at_stop z (Computed (source.Stops (Forked bs todo)) o, m)) (no_fault : at_stop.system.faulted ≡ false)
    (h : ParallelStop (running at_stop z) t.frames bs t.stop) where
  open at_stop use {
    run as G,
    lives as lv,
    course as c,
    state as s,
    system as u,
    number as i,
    configuration as d,
  }

  abbrev v : Name
  v = q at_stop

  abbrev p : Program
  p = G.g.program

  abbrev ss : Stmts
  ss = h.statements

  abbrev pub n : ℕ
  n = length (children_tables p G.moves G.shares h.start ss)

  pub some : 1 ≤ length bs
  some = subst (λ b. 1 ≤ length b) (sym h.births_are) (some_part ss (h.placed.formed (ParallelOf ss) (inl refl)))

  abbrev k : ℕ
  k = x.state.forks v

  abbrev pub n1 : Memory Plain
  n1 = record (t.memory) { since = t.memory.ticks }

  abbrev w1 : Identity
  w1 = record (x.left.who) { forks = x.left.who.forks + 1 }

  abbrev Wr : Loc → Type 0
  Wr a = OwnLocation v a ⊎ (lv v).W a

  abbrev Rd : Loc → Type 0
  Rd a = OwnLocation v a ⊎ (lv v).R a

  frames_are : o.frames ≡ sources t.frames
  frames_are = t.stand.frames.sources_are

  may_fork : o.depth + 1 ≤ G.g.limits.depth
  may_fork = next_is_within o.depth G.g.limits.depth t.may_nest

  abbrev handing_at : ℕ → ℕ → Stmt → Handing
  handing_at e b st = handing_of G.code.layouts n1.frames (pos 0) b (child_table p G.moves G.shares e None st)

  -- the life of child b, whose statement is this one and begins at e
  abbrev life_by : Option Stmt → ℕ → ℕ → BirthRights
  life_by None e b = record { W = λ a. ⊥; R = λ a. ⊥; J = λ a. ⊥; low = 0; born = 0; moved = []; below = []; end = 0 }
  life_by (Some st) e b = record {
    W = λ a. Aimed p (sources t.frames) st a;
    R = λ a. Used p (sources t.frames) st a;
    J = λ a. Seen h.scopes t.frames st a;
    low = suc (index_frame (handing_at e b st));
    born = o.depth + 1;
    moved = (handing_at e b st).moved;
    below = t.frames;
    end = after_statement p e st;
  }

  abbrev new_life : ℕ → BirthRights
  new_life b = life_by (slice_get (list_of ss) b) (entry_at p ss h.start b) b

  abbrev Aims_by : Option Stmt → Loc → Type 0
  Aims_by a b = AimedAt p (λ a. OwnOrGiven (W_of G lv) v a) (λ a. OwnOrGiven (R_of G lv) v a) o.frames a b

  abbrev Uses_by : Option Stmt → Loc → Type 0
  Uses_by a b = UsedAt p (λ a. OwnOrGiven (W_of G lv) v a) (λ a. OwnOrGiven (R_of G lv) v a) o.frames a b

  to_w : (b : ℕ) (a : Loc) → Aims_by (slice_get (list_of ss) b) a → (new_life b).W a
  to_w b a g = go (slice_get (list_of ss) b) g
    where
      go : (st : Option Stmt) → Aims_by st a → (life_by st (entry_at p ss h.start b) b).W a
      go None g = g
      go (Some st) g = subst (λ f. Aimed p f st a) frames_are g

  from_w : (b : ℕ) (a : Loc) → (new_life b).W a → Aims_by (slice_get (list_of ss) b) a
  from_w b a g = go (slice_get (list_of ss) b) g
    where
      go : (st : Option Stmt) → (life_by st (entry_at p ss h.start b) b).W a → Aims_by st a
      go None g = g
      go (Some st) g = subst (λ f. Aimed p f st a) (sym frames_are) g

  to_r : (b : ℕ) (a : Loc) → Uses_by (slice_get (list_of ss) b) a → (new_life b).R a
  to_r b a g = go (slice_get (list_of ss) b) g
    where
      go : (st : Option Stmt) → Uses_by st a → (life_by st (entry_at p ss h.start b) b).R a
      go None g = g
      go (Some st) g = subst (λ f. Used p f st a) frames_are g

  from_r : (b : ℕ) (a : Loc) → (new_life b).R a → Uses_by (slice_get (list_of ss) b) a
  from_r b a g = go (slice_get (list_of ss) b) g
    where
      go : (st : Option Stmt) → (life_by st (entry_at p ss h.start b) b).R a → Uses_by st a
      go None g = g
      go (Some st) g = subst (λ f. Used p f st a) (sym frames_are) g

  born : Born p (λ a. OwnOrGiven (W_of G lv) v a) (λ a. OwnOrGiven (R_of G lv) v a) o.frames (list_of ss) bs
  born = subst (λ f. Born p (λ a. OwnOrGiven (W_of G lv) v a) (λ a. OwnOrGiven (R_of G lv) v a) f (list_of ss) bs)
      (sym frames_are)
      (subst (λ b. Born p (λ a. OwnOrGiven (W_of G lv) v a) (λ a. OwnOrGiven (R_of G lv) v a) (sources t.frames)
      (list_of ss)
      b) (sym h.births_are)
      (born_of ss (part (λ u a. inr (inl a)) h.placed.sound) (h.placed.sound.kept (ParallelOf ss) (inl refl))))

  -- its parent's memory
  stood : St G (lv v) (λ a b. lv ((a, b) ∷ v)) v w1 t.memory.ticks t.frames o x.state.store n1
  stood = fk.parent_stand at_stop z bs todo o m x t y no_fault h.table (pos 0)
      (length (children_tables G.g.program G.moves G.shares h.start h.statements)) h.stop_is some t.memory.ticks refl

  longer : (j : ℕ) → suc (length w1.name) ≤ length ((k, j) ∷ v)
  longer j = let a = ap (λ (a : Name). length a) x.good.named in omega (arith, a)

  module _ (more : ℕ → ℕ → BirthRights) where
    abbrev fresh : Fresh G (lv v) more v
    fresh = record { based = z.fresh.based; reads = z.fresh.reads; low_small = z.fresh.low_small; ends = z.fresh.ends }

    module _ (j : ℕ) (b : Birth) (e : slice_get bs j ≡ Some b) where
      here : Child G true h.scopes ss h.start j b
      here = child_here G true h.scopes ss h.start j b (ap (λ a. slice_get a j) (sym h.births_are) ∙ e) h.children_stand

      abbrev ch : ChildIs p G.moves G.shares G.code G.callable true h.scopes ss h.start j b
      ch = here.child

      -- its life is that by its statement
      life_is : new_life j ≡ life_by (Some ch.statement) ch.entry j
      life_is = ap (λ a. life_by a (entry_at p ss h.start j) j) (here.statement_is
          ∙ ap (λ a. Some a) (sym here.child_is))
          ∙ ap (λ a. life_by (Some ch.statement) a j) (sym here.entry_is)

      table_is : child_or (child_at (table_or (slice_get G.code.forks h.table)) j)
          ≡ child_table p G.moves G.shares ch.entry None ch.statement
      table_is = ap (λ a. child_or (child_at (table_or a) j)) h.table_is
          ∙ ap (λ a. child_or a) (table_at p G.moves G.shares ss h.start j ∙ ch.table)

      in_scope : IsScoped p h.scopes ch.statement
      in_scope = is_scoped G true h.scopes ch.entry ch.statement ch.body
          (λ u1 a1. h.placed.formed u1 (inr (inl (ch.inside u1 a1))))

      kept_of_it : Handed G (lv v) more v t.frames n1 (new_life j) ((k, j) ∷ v)
      kept_of_it = subst (λ (lf : BirthRights). Handed G (lv v) more v t.frames n1 lf ((k, j) ∷ v)) (sym life_is)
          (cs.handed_facts G (lv v) more v fresh stood may_fork ss h.scopes h.placed h.start j b ch ((k, j) ∷ v)
          (longer j) (pos 0))

      shares_piece : (a : Spot) → In a (handing_at ch.entry j ch.statement).shared → IsPiece (fin.get n1.store.map a)
      shares_piece a f = shared_piece G.g G.code w1 (Named G) (Called G) Wr Rd (lv v).J (lv v).low (length (lv v).below)
          (lv v).born t.memory.ticks G.pause (lv v).moved G.formed G.laid G.free z.fresh.reads G.moves G.shares G.sets
          stood ch.statement (cs.sound G (lv v) more v fresh stood may_fork ss h.scopes h.placed h.start j b ch
          ((k, j) ∷ v)
          (longer j) (pos 0)) (cs.unread G (lv v) more v fresh stood may_fork ss h.scopes h.placed h.start j b ch
          ((k, j) ∷ v)
          (longer j) (pos 0)) ((k, j) ∷ v) (cs.new_name G (lv v) more v fresh stood may_fork ss h.scopes h.placed
          h.start j b ch
          ((k, j) ∷ v) (longer j) (pos 0)) (child_table p G.moves G.shares ch.entry None ch.statement) refl refl (pos 0)
          j (cs.consoles G (lv v) more v) h.scopes h.placed.chain
          (λ x1 up own1 a1. h.placed.indexes x1 up (inr (inl (ch.inside (use_of.Seen x1) a1))))
          (λ y1 used1 own1. in_scope y1 used1) a f

      shares_known : (a : Spot) → In a (handing_at ch.entry j ch.statement).shared → IsSome (fin.get n1.store.map a)
      shares_known a f = known_of_piece (fin.get n1.store.map a) (shares_piece a f)

      output_stays : Rd Output → In output_spot (handing_at ch.entry j ch.statement).shared → ⊥
      output_stays may f = output_unshared G.g G.code w1 (Named G) (Called G) Wr Rd (lv v).J (lv v).low
          (length (lv v).below) (lv v).born t.memory.ticks G.pause (lv v).moved G.formed G.laid G.free z.fresh.reads
          G.moves G.shares G.sets stood ch.statement
          (cs.sound G (lv v) more v fresh stood may_fork ss h.scopes h.placed h.start j b ch ((k, j) ∷ v) (longer j)
          (pos 0))
          (cs.unread G (lv v) more v fresh stood may_fork ss h.scopes h.placed h.start j b ch ((k, j) ∷ v) (longer j)
          (pos 0))
          ((k, j) ∷ v) (cs.new_name G (lv v) more v fresh stood may_fork ss h.scopes h.placed h.start j b ch
          ((k, j) ∷ v) (longer j)
          (pos 0)) (child_table p G.moves G.shares ch.entry None ch.statement) refl refl (pos 0) j
          (cs.consoles G (lv v) more v) h.scopes h.placed.chain
          (λ x1 up own1 a1. h.placed.indexes x1 up (inr (inl (ch.inside (use_of.Seen x1) a1))))
          (λ y1 used1 own1. in_scope y1 used1) may f

      moves_known : (a : Spot) → In a (handing_at ch.entry j ch.statement).moved → IsSome (fin.get n1.store.map a)
      moves_known a f = cs.all_moved_known G (lv v) more v fresh stood may_fork ss h.scopes h.placed h.start j b ch
          ((k, j) ∷ v)
          (longer j) (pos 0) a f

      -- and it stands as it is born
      process_is : new_process x.left.who o j b ≡ cs.own G (lv v) more v fresh stood may_fork ss h.scopes h.placed
          h.start j b ch
          ((k, j) ∷ v) (longer j) (pos 0)
      process_is = ap (λ a. new_process x.left.who o j a) ch.birth
          ∙ ap (λ (a : Name). record {
            todo = push ch.statement [];
            who = record { name = a; forks = 0; opens = 0 };
            own = record { frames = o.frames; depth = o.depth + 1; ticks = 0; cells = 0 };
          })
          (ap (λ a. cons (a, j) x.left.who.name)
          (fk.counted at_stop z bs todo o m x t y no_fault h.table (pos 0)
          (length (children_tables G.g.program G.moves G.shares h.start h.statements)) h.stop_is some)
          ∙ ap (λ a. cons (k, j) a) x.good.named)

      it_stands : (number : ℕ) → Called G ((k, j) ∷ v) number → (own_more : ℕ → ℕ → BirthRights)
          → ProcessMatches G (new_life j) own_more ((k, j) ∷ v) 0 (new_process x.left.who o j b) x.state.store
          (sys.child_process plain (run_is G) (At t.pc t.stack n1) (pos 0) number j
          (child_or (child_at (table_or (slice_get G.code.forks h.table)) j)))
      it_stands number called own_more =
          subst (λ (lf : BirthRights). ProcessMatches G lf own_more ((k, j) ∷ v) 0 (new_process x.left.who o j b)
          x.state.store
          (sys.child_process plain (run_is G) (At t.pc t.stack n1) (pos 0) number j
          (child_or (child_at (table_or (slice_get G.code.forks h.table)) j)))) (sym life_is)
          (subst (λ a. ProcessMatches G (life_by (Some ch.statement) ch.entry j) own_more ((k, j) ∷ v) 0 a x.state.store
          (sys.child_process plain (run_is G) (At t.pc t.stack n1) (pos 0) number j
          (child_or (child_at (table_or (slice_get G.code.forks h.table)) j)))) (sym process_is)
          (subst (λ a. ProcessMatches G (life_by (Some ch.statement) ch.entry j) own_more ((k, j) ∷ v) 0
          (cs.own G (lv v) more v fresh stood may_fork ss h.scopes h.placed h.start j b ch ((k, j) ∷ v) (longer j)
          (pos 0))
          x.state.store (sys.child_process plain (run_is G) (At t.pc t.stack n1) (pos 0) number j a)) (sym table_is)
          (cs.child_stands G (lv v) more v fresh stood may_fork ss h.scopes h.placed h.start j b ch ((k, j) ∷ v)
          (longer j) (pos 0)
          number called t.pc t.stack shares_known own_more)))

  count_is : length bs ≡ n
  count_is = ap (λ b. length b) h.births_are ∙ tables_count G true h.scopes ss h.start

  at_place : (j : ℕ) → j < n → (b : Birth) × (slice_get bs j ≡ Some b)
  at_place j lt = item_there bs j (omega (arith, lt, count_is))

  -- no children of the parent's own matter here
  abbrev none : ℕ → ℕ → BirthRights
  none a b = lv ((a, b) ∷ v)

  abbrev one_of : ℕ → Handing
  one_of j = handing_of G.code.layouts n1.frames (pos 0) j
      (child_or (child_at (table_or (slice_get G.code.forks h.table)) j))

  known : (a : Spot) → In a (moved_of (fk.hs at_stop z bs todo o m x t y no_fault h.table (pos 0)
      (length (children_tables G.g.program G.moves G.shares h.start h.statements)) h.stop_is some))
      ⊎ In a (shared_of (fk.hs at_stop z bs todo o m x t y no_fault h.table (pos 0)
      (length (children_tables G.g.program G.moves G.shares h.start h.statements)) h.stop_is some)) → IsSome
      (fin.get n1.store.map a)
  known a (inl g) =
      let w = moved_by G.code.layouts n1.frames (table_or (slice_get G.code.forks h.table)) (pos 0) n a g in
      let b = at_place w.0 w.1 in
      moves_known none w.0 b.0 b.1 a (subst (λ tb. In a (handing_of G.code.layouts n1.frames (pos 0) w.0 tb).moved)
      (table_is none w.0 b.0 b.1) w.2)
  known a (inr g) =
      let w = shared_by G.code.layouts n1.frames (table_or (slice_get G.code.forks h.table)) (pos 0) n a g in
      let b = at_place w.0 w.1 in
      shares_known none w.0 b.0 b.1 a (subst (λ tb. In a (handing_of G.code.layouts n1.frames (pos 0) w.0 tb).shared)
      (table_is none w.0 b.0 b.1) w.2)

  dry : OwnOrGiven (R_of G lv) v Output → NotIn output_spot
      (shared_of (fk.hs at_stop z bs todo o m x t y no_fault h.table (pos 0)
      (length (children_tables G.g.program G.moves G.shares h.start h.statements)) h.stop_is some))
  dry may = ⊎_elim (λ g. absurd (wet g)) (λ g. g)
      (in_or output_spot (shared_of (fk.hs at_stop z bs todo o m x t y no_fault h.table (pos 0)
      (length (children_tables G.g.program G.moves G.shares h.start h.statements)) h.stop_is some)))
    where
      wet : In output_spot (shared_of (fk.hs at_stop z bs todo o m x t y no_fault h.table (pos 0)
          (length (children_tables G.g.program G.moves G.shares h.start h.statements)) h.stop_is some)) → ⊥
      wet g =
          let w = shared_by G.code.layouts n1.frames (table_or (slice_get G.code.forks h.table)) (pos 0) n output_spot
          g in
          let b = at_place w.0 w.1 in
          output_stays none w.0 b.0 b.1 may (subst
          (λ tb. In output_spot (handing_of G.code.layouts n1.frames (pos 0) w.0 tb).shared)
          (table_is none w.0 b.0 b.1) w.2)

  parts : (a : Spot) → In a (moved_of (fk.hs at_stop z bs todo o m x t y no_fault h.table (pos 0)
      (length (children_tables G.g.program G.moves G.shares h.start h.statements)) h.stop_is some)) → (j : ℕ) × (j < n)
      × In a (new_life j).moved
  parts a g =
      let w = moved_by G.code.layouts n1.frames (table_or (slice_get G.code.forks h.table)) (pos 0) n a g in
      let b = at_place w.0 w.1 in (
        w.0,
        w.1,
        subst (λ (lf : BirthRights). In a lf.moved) (sym (life_is none w.0 b.0 b.1))
            (subst (λ tb. In a (handing_of G.code.layouts n1.frames (pos 0) w.0 tb).moved) (table_is none w.0 b.0 b.1)
            w.2),
      )

  -- ---- what it hands over

  abbrev table_there : ForkTable
  table_there = record { children = children_tables p G.moves G.shares h.start ss }

  is_there : table_or (slice_get G.code.forks h.table) ≡ table_there
  is_there = ap (λ a. table_or a) h.table_is

  pub can_split : CanSplit n1.store (fk.hs at_stop z bs todo o m x t y no_fault h.table (pos 0)
      (length (children_tables G.g.program G.moves G.shares h.start h.statements)) h.stop_is some)
  can_split = subst (λ a. CanSplit n1.store (plan_from G.code.layouts n1.frames a (pos 0) 0 n)) (sym is_there)
      (parallel_split G (lv v) none v (fresh none) stood ss h.scopes h.placed h.start h.children_stand (pos 0) (λ a g.
      (let w = shared_by G.code.layouts n1.frames table_there (pos 0) n a g in
      let b = at_place w.0 w.1 in
      shares_piece none w.0 b.0 b.1 a (subst (λ tb. In a (handing_of G.code.layouts n1.frames (pos 0) w.0 tb).shared)
      (table_is none w.0 b.0 b.1)
      (subst (λ tb. In a (handing_of G.code.layouts n1.frames (pos 0) w.0 (child_or (child_at tb w.0))).shared)
      (sym is_there) w.2)))))

  -- what moves to a child
  moved_one : (j : ℕ) → j < n → (a : Spot) → In a (new_life j).moved → In a (one_of j).moved
  moved_one j lt a g =
      let b = at_place j lt in
      subst (λ tb. In a (handing_of G.code.layouts n1.frames (pos 0) j tb).moved) (sym (table_is none j b.0 b.1))
      (subst (λ (lf : BirthRights). In a lf.moved) (life_is none j b.0 b.1) g)

  gives : (j : ℕ) → j < n → (a : Spot) → In a (new_life j).moved
      → In a (moved_of (fk.hs at_stop z bs todo o m x t y no_fault h.table (pos 0)
      (length (children_tables G.g.program G.moves G.shares h.start h.statements)) h.stop_is some))
  gives j lt a g = moved_in G.code.layouts n1.frames (table_or (slice_get G.code.forks h.table)) (pos 0) n j a lt
      (moved_one j lt a g)

  parted : (j k : ℕ) → j < n → k < n → j ≢ k → (a : Spot) → In a (new_life j).moved → In a (new_life k).moved → ⊥
  parted j k lj lk ne a e g = parts_differ G (lv v) none v (fresh none) stood ss h.scopes h.placed h.start
      h.children_stand (pos 0) j k lj lk ne a
      (there j lj e) (there k lk g)
    where
      there : (j : ℕ) → j < n → In a (new_life j).moved
          → In a (handing_of G.code.layouts n1.frames (pos 0) j (child_or (child_at table_there j))).moved
      there j lt e = subst (λ tb. In a (handing_of G.code.layouts n1.frames (pos 0) j (child_or (child_at tb j))).moved)
          is_there (moved_one j lt a e)

  pub parallel_entry : Entry_of G c s u i d
  parallel_entry = by (nat_lt G.g.limits.entries (u.entries + 1)) (nat_lt G.g.limits.processes (u.births.processes + n))
      refl refl
    where
      os_are : length (Rattle.sp_meaning.specs.Actions.new_processes x.left.who o 0 bs) ≡ n
      os_are = newborns_length x.left.who o 0 bs ∙ count_is

      by : (e1 e2 : Bool) → nat_lt G.g.limits.entries (u.entries + 1) ≡ e1
          → nat_lt G.g.limits.processes (u.births.processes + n) ≡ e2 → Entry_of G c s u i d
      by true e2 h1 h2 = fk.over_entry at_stop z bs todo o m x t y no_fault h.table (pos 0)
          (length (children_tables G.g.program G.moves G.shares h.start h.statements)) h.stop_is some h1
      by false true h1 h2 = fk.many_entry at_stop z bs todo o m x t y no_fault h.table (pos 0)
          (length (children_tables G.g.program G.moves G.shares h.start h.statements)) h.stop_is some h1
          (ap (λ a. nat_lt G.g.limits.processes (u.births.processes + a)) os_are ∙ h2) h2
      by false false h1 h2 = fk.fork_entry at_stop z bs todo o m x t y no_fault h.table (pos 0)
          (length (children_tables G.g.program G.moves G.shares h.start h.statements)) h.stop_is some h1 h2 count_is
          (list_of ss) born
          new_life to_w from_w to_r from_r known dry parts gives (λ a g. can_split.apart a g) parted
          (λ more j lt. (let b = at_place j lt in kept_of_it more j b.0 b.1))
          (λ more j lt b e called. it_stands none j b e (u.births.processes + j) called more)
