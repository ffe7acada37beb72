-- A fork: a child of a parallel statement stands as it is born (`child_stands`), its parent keeps of it what its join
-- will need (`handed_facts`), and joins with what moved away (`parent_joins`).
use Rattle.std.proofs.Common.{◌≡◌, ◌⊎◌, inl, inr, ⊎_elim, ℕ, zero, suc, ◌+◌, ◌<◌, ◌≤◌, ℤ, List, [], ◌∷◌, length, Some}
use Rattle.std.proofs.Common.{None, true, false, if◌then◌else◌, refl, sym, ap, ◌∙◌, arith}
use Rattle.std.specs.Prelude.{◌≢◌, IsSome, slice_get}
use Rattle.std.specs.FinMap as fin
use Rattle.sp_tree.specs.declared.checked.Role.TheVariants as role
use Rattle.sp_tree.specs.Plain.{Variable, Stmts, Parallel}
use Rattle.sp_tree.specs.Uses.{Use, Target, In_stmt}
use Rattle.sp_tree.specs.Uses as use_of
use Rattle.sp_tree.specs.Sets.{IsTarget, IsUsed}
use Rattle.sp_cell.specs.declared.spot.Spot.{Spot}
use Rattle.sp_cell.specs.declared.spot.Handing.{Handing}
use Rattle.sp_cell.specs.Fork.{index_frame, with_away, map_after_fork, moved_of, shared_of}
use Rattle.sp_cell.specs.Map.{Plain, output_spot}
use Rattle.sp_cell.specs.Spots.{In, NotIn}
use Rattle.sp_meaning.specs.Model.{Name, Absent}
use Rattle.sp_meaning.specs.LocalWork.{Loc, Cell, Input, Output, OfIndex, LocalState, Identity, Process}
use Rattle.sp_meaning.specs.Actions.{Birth, push}
use Rattle.sp_meaning.specs.Rights.{Aimed, Used, Sound}
use Rattle.sp_meaning.specs.Run.{Store}
use Rattle.sp_meaning.proofs.Rights.{OwnLocation}
use Rattle.sp_code.specs.declared.code.ChildTable.{ChildTable}
use Rattle.sp_code.specs.Machine.{Entry, At}
use Rattle.sp_code.specs.Memory.{Memory}
use Rattle.sp_code.specs.PlainStore.{plain}
use Rattle.sp_code.specs.System.{spot_of, child_process, handing_of, on_store as On_store}
use Rattle.sp_meaning.specs.Steps.{has_ended}
use Rattle.sp_meaning.specs.Runs.{StateOf}
use Rattle.sp_codegen.proofs.Joins.{handed_joining}
use Rattle.sp_link.proofs.OthersStay.{joining_more}
use Rattle.sp_code.specs.Scopes.{Scope}
use Rattle.sp_code.specs.Places.{after_statement}
use Rattle.sp_code.specs.TreeCode.{child_table}
use Rattle.sp_codegen.specs.FramePairs.{FramePair, sources, pairs_from}
use Rattle.sp_codegen.specs.Relation.{Placed}
use Rattle.sp_codegen.proofs.Owners.{no_longer_owner}
use Rattle.sp_codegen.proofs.Begins.{child_begins, memory_in}
use Rattle.sp_codegen.proofs.Birth.{low_small}
use Rattle.sp_codegen.proofs.ChildIndexes.{ChildIs, Seen, child_follows}
use Rattle.sp_code.proofs.Plans.{in_spots}
use Rattle.sp_codegen.proofs.HandedUses.{found_at, is_input, console_only, moved_aimed, moved_known, output_handed}
use Rattle.sp_codegen.proofs.HandedUses.{right_of, MovedStands, moved_stands, no_console_spot, no_index_spot}
use Rattle.sp_codegen.proofs.HandedUses.{index_no_console}
use Rattle.sp_cell.proofs.Plan.{in_or, get_away_in, get_lent_out}
use Rattle.sp_tree.specs.TreeShape.{IsFormedUse}
use Rattle.sp_tree.specs.Sets.{Reach}
use Rattle.sp_codegen.specs.MemoryRelation.{Live, spot_at}
use Rattle.sp_code.specs.Scopes.{slot}
use Rattle.sp_code.specs.Memory.{position_at}
use Rattle.sp_tree.specs.Interference.{IsIndexOf}
use Rattle.sp_meaning.proofs.Within.{part}
use Rattle.sp_link.proofs.Relation.{RunContext, BirthRights, Called, Named, Fresh, St, ProcessMatches, Joined, Handed}
use Rattle.sp_link.proofs.Relation.{Fo, left_of}
use Rattle.sp_link.proofs.Relation.{execution, run_is}

-- what is reached from uses that are formed is formed
pub reached_formed : (G : RunContext) {Here : Use → Type 0} (bs : List ℕ)
    → ((u : Use) → Here u → IsFormedUse G.g.program u)
    → (u : Use) → Reach G.g.program Here bs u → IsFormedUse G.g.program u
reached_formed G [] here u r = here u r
reached_formed G (b ∷ bs) here u step = reached_formed G bs (G.formed.uses b step.block step.is_block) u step.rest

same_role : (i v : Variable) → Some i ≡ Some v → i.role ≡ role.Index → v.role ≡ role.Index
same_role i v e h = let same : i ≡ v = cc e in ap (λ (y : Variable). y.role) (sym same) ∙ h

module _ (G : RunContext) (lf : BirthRights) (kids : ℕ → ℕ → BirthRights) (q : Name) where
  abbrev Wr : Loc → Type 0
  Wr l = OwnLocation q l ⊎ lf.W l

  abbrev Rd : Loc → Type 0
  Rd l = OwnLocation q l ⊎ lf.R l

  pub consoles : (y : ℕ) (v : Variable) → slice_get G.g.program.variables y ≡ Some v → v.role ≡ role.Console → y < 2
  consoles y v e r = (G.free.consoles y v e r).1

  module _ (f : Fresh G lf kids q) {w : Identity} {since : ℕ} {js : List FramePair} {o : LocalState} {s : Store}
      {n : Memory Plain}
      (t : St G lf kids q w since js o s n) (may_fork : o.depth + 1 ≤ G.g.limits.depth)
      (ss : Stmts) (sc : List Scope) (pl : Placed G.g Wr Rd lf.J sc js (In_stmt (Parallel ss))) (first k : ℕ)
      (b : Birth) (z : ChildIs G.g.program G.moves G.shares G.code G.callable true sc ss first k b)
      (child : Name) (longer : suc (length w.name) ≤ length child) (value : ℤ) where
    -- how the statement is formed, and what it reaches
    formed_here : (u : Use) → In_stmt z.statement u → IsFormedUse G.g.program u
    formed_here u a = pl.formed u (inr (inl (z.inside u a)))

    pub unread : IsUsed G.g.program (In_stmt z.statement) 1 → IsTarget G.g.program (In_stmt z.statement) 1
    unread (inl a) = a
    unread (inr a) = absurd (reached_formed G a.0 formed_here (use_of.Seen 1) a.1 refl)

    declared : (y : ℕ) → IsTarget G.g.program (In_stmt z.statement) y → (v : Variable)
        × (slice_get G.g.program.variables y ≡ Some v)
    declared y a = let h = reached_formed G a.0 formed_here (Target y) a.1 in (h.0, h.1)

    no_index_aimed : (y : ℕ) → IsIndexOf G.g.program y → IsTarget G.g.program (In_stmt z.statement) y → ⊥
    no_index_aimed y i a = let h = reached_formed G a.0 formed_here (Target y) a.1 in
        h.2 (same_role i.0 h.0 (sym i.1 ∙ h.1) i.2)

    pub sound : Sound G.g.program Wr Rd (sources js) (In_stmt z.statement)
    sound = part (λ u a. inr (inl (z.inside u a))) pl.sound

    pub new_name : (h : ℕ) (j : FramePair) (rest : List FramePair) → pairs_from (suc h) js ≡ j ∷ rest
        → j.source.owner ≡ child → ⊥
    new_name = no_longer_owner (length w.name) js child t.frames.owners longer

    abbrev pub table : ChildTable
    table = child_table G.g.program G.moves G.shares z.entry None z.statement

    abbrev pub handing : Handing
    handing = handing_of G.code.layouts n.frames value k table

    -- what its birth gives it
    abbrev pub life : BirthRights
    life = record {
      W = λ l. Aimed G.g.program (sources js) z.statement l;
      R = λ l. Used G.g.program (sources js) z.statement l;
      J = λ h. Seen sc js z.statement h;
      low = suc (index_frame handing);
      born = o.depth + 1;
      moved = handing.moved;
      below = js;
      end = after_statement G.g.program z.entry z.statement;
    }

    abbrev pub own : Process
    own = record {
      todo = push z.statement [];
      who = record { name = child; forks = 0; opens = 0 };
      own = record { frames = o.frames; depth = o.depth + 1; ticks = 0; cells = 0 };
    }

    pub all_moved_known : (a : Spot) → In a handing.moved → IsSome (fin.get n.store.map a)
    all_moved_known a i = moved_known G.g G.code w (Named G) (Called G) Wr Rd lf.J lf.low (length lf.below) lf.born
        since G.pause lf.moved G.formed G.laid G.free f.reads G.moves G.shares G.sets t z.statement sound unread child
        new_name table refl refl value k consoles no_index_aimed declared a i

    module _ (number : ℕ) (called : Called G child number) (pc : ℕ) (stack : List Entry)
        (shared_known : (a : Spot) → In a handing.shared → IsSome (fin.get n.store.map a)) (more : ℕ → ℕ
        → BirthRights) where
      begins : Rattle.sp_codegen.specs.MemoryRelation.Agrees G.g G.code own.who (Named G) (Called G)
          (λ l. OwnLocation child l ⊎ life.W l) (λ l. OwnLocation child l ⊎ life.R l) life.J life.low (length js)
          life.born 0 G.pause
          life.moved js own.own s
          (memory_in (child_process plain (run_is G) (At pc stack n) value number k table))
          × Placed G.g (λ l. OwnLocation child l ⊎ life.W l) (λ l. OwnLocation child l ⊎ life.R l) life.J sc js
          (In_stmt z.statement)
      begins = child_begins G.g G.code w (Named G) (Called G) Wr Rd lf.J lf.low (length lf.below) lf.born since G.pause
          lf.moved f.based G.formed G.laid G.free f.reads G.moves G.shares G.sets consoles t may_fork
          ss sc pl G.callable first k b z unread own.who longer number called pc stack value all_moved_known

      pub fresh : Fresh G life more child
      fresh = record {
        based = (let a = t.frames.above_base in let c = f.based in omega (arith, a, c));
        reads = λ l h. ⊎_elim (λ a. inl a) (λ a. inr (a.0, inl a.1, a.2)) h;
        low_small = low_small G.g G.code w (Named G) (Called G) Wr Rd lf.J lf.low (length lf.below) lf.born since
            G.pause lf.moved f.based t may_fork handing all_moved_known own.who (omega (arith, longer)) number called
            (λ a. ⊥) (λ a. ⊥) (λ a. ⊥) (λ r h x l a. absurd a) (λ h a lt j rest e. absurd a) (λ a. absurd a)
            (λ a. absurd a) shared_known f.low_small;
        ends = z.end;
      }

      pub child_stands : ProcessMatches G life more child 0 own s
          (child_process plain (run_is G) (At pc stack n) value number k table)
      child_stands = record {
        fresh = fresh;
        named = refl;
        js = js;
        pc = z.entry;
        stack = [];
        memory = memory_in (child_process plain (run_is G) (At pc stack n) value number k table);
        configuration_is = refl;
        stand = begins.0;
        follows = child_follows (execution G life more child fresh own.who refl 0)
            z.statement sc z.entry (G.moves z.statement) (G.shares z.statement) None js begins.1 z.body;
      }

    -- what moves to it
    moves_so : (a : Spot) → In a handing.moved
        → MovedStands G.g G.code w (Named G) (Called G) Wr Rd lf.J lf.low (length lf.below) lf.born since G.pause
        lf.moved G.formed G.laid G.free f.reads G.moves G.shares G.sets t z.statement sound unread child new_name table
        refl refl value k a
    moves_so a i = moved_stands G.g G.code w (Named G) (Called G) Wr Rd lf.J lf.low (length lf.below) lf.born since
        G.pause lf.moved G.formed G.laid G.free f.reads G.moves G.shares G.sets t z.statement sound unread child
        new_name table refl refl value k consoles no_index_aimed declared a i

    aimed_used : (l : Loc) → Aimed G.g.program (sources js) z.statement l → Used G.g.program (sources js) z.statement l
    aimed_used l a = (a.0, inl a.1, a.2)

    aimed_right : (l : Loc) → Aimed G.g.program (sources js) z.statement l → Rd l
    aimed_right l a = right_of G.g G.code w (Named G) (Called G) Wr Rd lf.J lf.low (length lf.below) lf.born since
        G.pause lf.moved G.formed G.laid G.free f.reads G.moves G.shares G.sets t z.statement sound unread child
        new_name table refl refl value k l a.0 (inl a.1) a.2

    index_stays : (h : ℕ) → lf.J h → (j : FramePair) (rest : List FramePair) (x : ℕ) (v : ℤ)
        → pairs_from (suc h) js ≡ j ∷ rest
        → j.source.home ≡ OfIndex x v → NotIn (spot_at j.machine.number 0) handing.moved
    index_stays h jh j rest x v e hi = ⊎_elim (λ i. absurd (no (moves_so (spot_at j.machine.number 0) i))) (λ d. d)
        (in_or (spot_at j.machine.number 0) handing.moved)
      where
        no : MovedStands G.g G.code w (Named G) (Called G) Wr Rd lf.J lf.low (length lf.below) lf.born since G.pause
            lf.moved G.formed G.laid G.free f.reads G.moves G.shares G.sets t z.statement sound unread child new_name
            table refl refl value k (spot_at j.machine.number 0) → ⊥
        no (inl a) = index_no_console G.g G.code w (Named G) (Called G) Wr Rd lf.J lf.low (length lf.below) lf.born
            since G.pause lf.moved G.formed G.laid G.free f.reads G.moves G.shares G.sets t z.statement sound unread
            child new_name table refl refl value k h jh j rest x v e hi (inl (aimed_right Input a.1))
            (ap (λ (y : Spot). y.frame) a.0)
        no (inr (inl a)) = let bad : 0 ≡ 1 = ap (λ (y : Spot). y.variable) a.0 in absurd (omega (arith, bad))
        no (inr (inr (owner, number, variable, live, _, reads, spot_is))) =
            no_index_spot G.g G.code w (Named G) (Called G) Wr Rd lf.J lf.low (length lf.below) lf.born
            since G.pause lf.moved G.formed G.laid G.free f.reads G.moves G.shares G.sets t z.statement sound unread
            child new_name table refl refl value k owner number variable live reads h jh j rest x v e hi (sym spot_is)

    input_moved : Rd Input → In position_at.spot handing.moved → life.R Input
    input_moved may i = by (moves_so position_at.spot i)
      where
        by : MovedStands G.g G.code w (Named G) (Called G) Wr Rd lf.J lf.low (length lf.below) lf.born since G.pause
            lf.moved G.formed G.laid G.free f.reads G.moves G.shares G.sets t z.statement sound unread child new_name
            table refl refl value k position_at.spot → life.R Input
        by (inl a) = aimed_used Input a.1
        by (inr (inl a)) = let bad : 0 ≡ 1 = ap (λ (y : Spot). y.variable) a.0 in absurd (omega (arith, bad))
        by (inr (inr (owner, number, variable, live, _, reads, spot_is))) =
            absurd (no_console_spot G.g G.code w (Named G) (Called G) Wr Rd lf.J lf.low (length lf.below)
            lf.born since G.pause lf.moved G.formed G.laid G.free f.reads G.moves G.shares G.sets t z.statement sound
            unread child new_name table refl refl value k 0 owner number variable live reads (inl may) (omega arith)
            (sym spot_is))

    output_moved : Rd Output → In output_spot handing.moved → life.R Output
    output_moved may i = by (moves_so output_spot i)
      where
        by : MovedStands G.g G.code w (Named G) (Called G) Wr Rd lf.J lf.low (length lf.below) lf.born since G.pause
            lf.moved G.formed G.laid G.free f.reads G.moves G.shares G.sets t z.statement sound unread child new_name
            table refl refl value k output_spot → life.R Output
        by (inl a) = let bad : 1 ≡ 0 = ap (λ (y : Spot). y.variable) a.0 in absurd (omega (arith, bad))
        by (inr (inl a)) = aimed_used Output a.1
        by (inr (inr (owner, number, variable, live, _, reads, spot_is))) =
            absurd (no_console_spot G.g G.code w (Named G) (Called G) Wr Rd lf.J lf.low (length lf.below)
            lf.born since G.pause lf.moved G.formed G.laid G.free f.reads G.moves G.shares G.sets t z.statement sound
            unread child new_name table refl refl value k 1 owner number variable live reads (inr may) (omega arith)
            (sym spot_is))

    abbrev Keeps_spot : Spot → Type 0
    Keeps_spot a = (life.R Input × (a ≡ position_at.spot)) ⊎ ((life.R Output × (a ≡ output_spot))
        ⊎ ((r : Name) × (h : ℕ) × (x : ℕ) × (l : Live G.g.program js r h x)
        × (OwnLocation child (Cell r h x) ⊎ life.R (Cell r h x))
        × (a ≡ spot_at l.joint.machine.number (slot G.g.program x))))

    kept : (a : Spot) → In a handing.moved → Keeps_spot a
    kept a i = by (moves_so a i)
      where
        by : MovedStands G.g G.code w (Named G) (Called G) Wr Rd lf.J lf.low (length lf.below) lf.born since G.pause
            lf.moved G.formed G.laid G.free f.reads G.moves G.shares G.sets t z.statement sound unread child new_name
            table refl refl value k a → Keeps_spot a
        by (inl b) = inl (aimed_used Input b.1, b.0)
        by (inr (inl b)) = inr (inl (aimed_used Output b.1, b.0))
        by (inr (inr (owner, number, variable, live, aimed, _, spot_is))) =
            inr (inr (owner, number, variable, live, inr (aimed_used (Cell owner number variable) aimed), spot_is))

    pub handed_facts : Handed G lf kids q js n life child
    handed_facts = record {
      live = λ r h x l m i. (let a = moved_aimed G.g G.code w (Named G) (Called G) Wr Rd lf.J lf.low (length lf.below)
          lf.born since G.pause lf.moved G.formed G.laid G.free f.reads G.moves G.shares G.sets t z.statement sound
          unread child new_name table refl refl value k consoles no_index_aimed declared r h x l m i in
          (inr (a.0, inl a.1, a.2), (l, refl, refl)));
      aims = λ r h x l a. in_spots G.code.layouts n.frames (G.moves z.statement) a.0
          (spot_at l.joint.machine.number (slot G.g.program x)) (G.sets.moved z.statement a.0 a.1)
          (ap (λ y. spot_of G.code.layouts y a.0) t.frames.machines_are
          ∙ found_at G.g G.code w (Named G) (Called G) Wr Rd lf.J lf.low (length lf.below) lf.born since G.pause
          lf.moved G.formed G.laid G.free f.reads G.moves G.shares G.sets t z.statement sound unread child new_name
          table refl refl value k a.0 r h x a.2 l);
      no_index = index_stays;
      input = input_moved;
      output = output_moved;
      input_aims = λ a. (let y0 : a.0 ≡ 0 = is_input G.g G.code w (Named G) (Called G) Wr Rd lf.J lf.low
          (length lf.below) lf.born since G.pause lf.moved G.formed G.laid G.free f.reads G.moves G.shares G.sets t
          z.statement sound unread child new_name table refl refl value k a.0
          (console_only G.g G.code w (Named G) (Called G) Wr Rd lf.J lf.low (length lf.below) lf.born since G.pause
          lf.moved G.formed G.laid G.free f.reads G.moves G.shares G.sets t z.statement sound unread child new_name
          table refl refl value k a.0 Input (λ q k x e. absurd (cc e)) a.2).0 in
          in_spots G.code.layouts n.frames (G.moves z.statement) a.0 position_at.spot (G.sets.moved z.statement a.0 a.1)
          (ap (λ y. spot_of G.code.layouts n.frames y) y0));
      output_aims = λ a. (output_handed G.g G.code w (Named G) (Called G) Wr Rd lf.J lf.low (length lf.below) lf.born
          since G.pause lf.moved G.formed G.laid G.free f.reads G.moves G.shares G.sets t z.statement sound unread child
          new_name table refl refl value k consoles (inr (a.0, inl a.1, a.2))).1;
      old = λ a i. moved_known G.g G.code w (Named G) (Called G) Wr Rd lf.J lf.low (length lf.below) lf.born since
          G.pause lf.moved G.formed G.laid G.free f.reads G.moves G.shares G.sets t z.statement sound unread child
          new_name table refl refl value k consoles no_index_aimed declared a i;
      kept = kept;
    }

-- and its parent joins: what moved is away
module _ (G : RunContext) (lf : BirthRights) (kids : ℕ → ℕ → BirthRights) (q : Name) (f : Fresh G lf kids q)
    (since k n : ℕ)
    (next : Process) (js : List FramePair) (s : StateOf G.g) (m : Memory Plain)
    (t : St G lf kids q next.who since js next.own s.store m) (named : next.who.name ≡ q)
    (pc : ℕ) (stack : List Entry) (follows : Fo G lf kids q f next.who named since pc stack js next.todo)
    (hs : List Handing) (known : (a : Spot) → In a (moved_of hs) ⊎ In a (shared_of hs) → IsSome (fin.get m.store.map a))
    (dry : OwnLocation q Output ⊎ lf.R Output → NotIn output_spot (shared_of hs))
    (some : 1 ≤ n) (living : (j : ℕ) → j < n → has_ended (s.condition ((k, j) ∷ q)) ≡ false)
    (born : (j : ℕ) → j < n → s.condition ((k, j) ∷ q) ≢ Absent)
    (parts : (a : Spot) → In a (moved_of hs) → (j : ℕ) × (j < n) × In a (kids k j).moved)
    (children : (j : ℕ) → j < n → Handed G lf kids q js m (kids k j) ((k, j) ∷ q))
    (back : (j : ℕ) → j < n → (a : Spot) → In a (kids k j).moved → In a (moved_of hs))
    (unshared : (a : Spot) → In a (moved_of hs) → NotIn a (shared_of hs))
    (parted : (i j : ℕ) → i < n → j < n → i ≢ j → (a : Spot) → In a (kids k i).moved → In a (kids k j).moved → ⊥) where
  all_left : (a : ℕ) → a ≤ n → left_of G lf kids q s.condition k a ≡ a
  all_left zero h = refl
  all_left (suc a) h =
      let x : left_of G lf kids q s.condition k (suc a) ≡ 1 + left_of G lf kids q s.condition k a =
      ap (λ b. (if b then 0 else 1) + left_of G lf kids q s.condition k a) (living a (omega (arith, h))) in
      let y = all_left a (omega (arith, h)) in omega (arith, x, y)

  pub parent_joins : Joined G lf kids q since k n n next s (On_store (λ y. plain.handed y hs) (At pc stack m))
  parent_joins = record {
    fresh = f;
    named = named;
    js = js;
    pc = pc;
    stack = stack;
    memory = m;
    held = map_after_fork m.store.map hs;
    configuration_is = refl;
    joining = joining_more G lf kids q (λ a h. let z = parts a h in (z.0, (z.1, living z.0 z.1), z.2))
        (handed_joining G.g G.code next.who (Named G) (Called G) (λ l. OwnLocation q l ⊎ lf.W l)
        (λ l. OwnLocation q l ⊎ lf.R l) lf.J
        lf.low (length lf.below) lf.born since G.pause lf.moved t hs known dry);
    follows = follows;
    count = sym (all_left n (omega arith));
    some = some;
    there = born;
    children = λ j h. children j h.0;
    gone = λ i h a e. get_lent_out m.store.map (shared_of hs) (with_away m.store.map (moved_of hs)) a
        (unshared a (back i h.0 a e)) ∙ get_away_in m.store.map (moved_of hs) a (back i h.0 a e);
    parted = λ i j h g. parted i j h.0 g.0;
  }
