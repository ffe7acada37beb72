-- A child of a forall: nothing moves to it, and what it shares its parent holds; it stands as it is born, with its
-- index in a frame of its own (`each_stands`), and its parent keeps of it what its join will need (`each_handed`).
use Rattle.std.proofs.Common.{◌≡◌, ◌⊎◌, inl, inr, ⊎_elim, ℕ, suc, ◌+◌, ◌==◌, ◌≤◌, ℤ, List, [], ◌∷◌, length, Some, None}
use Rattle.std.proofs.Common.{Bool, true, false, refl, sym, ap, ◌∙◌, arith, eqb-true, eq-eqb}
use Rattle.std.specs.Prelude.{◌≢◌, ◌+ℤ◌, pos, IsSome, slice_get}
use Rattle.std.specs.FinMap as fin
use Rattle.sp_tree.specs.declared.checked.Role.TheVariants as role
use Rattle.sp_tree.specs.TreeShape.{IsFormedUse}
use Rattle.sp_tree.specs.Interference.{IsIndexOf}
use Rattle.sp_tree.specs.Plain.{Expr, Variable, Stmt, Forall}
use Rattle.sp_tree.specs.Sets.{IsTarget, IsUsed}
use Rattle.sp_tree.specs.Uses.{Use, Target, CallOf, ParallelOf, ForallOf, Stop, In_stmt}
use Rattle.sp_tree.specs.Uses as use_of
use Rattle.sp_cell.specs.declared.spot.Spot.{Spot}
use Rattle.sp_cell.specs.declared.spot.Handing.{Handing}
use Rattle.sp_cell.specs.Fork.{index_frame}
use Rattle.sp_cell.specs.Map.{Plain, IsPiece, output_spot}
use Rattle.sp_cell.proofs.Plan.{in_or}
use Rattle.sp_cell.specs.Spots.{In}
use Rattle.sp_meaning.specs.Model.{Name}
use Rattle.sp_meaning.specs.LocalWork.{Loc, Output, OfIndex, LocalState, Identity, Process}
use Rattle.sp_meaning.specs.Actions.{push}
use Rattle.sp_meaning.specs.Rights.{Aimed, Used, Sound}
use Rattle.sp_meaning.specs.Run.{Store}
use Rattle.sp_meaning.proofs.Rights.{OwnLocation}
use Rattle.sp_meaning.proofs.SoundParts.{element_sound}
use Rattle.sp_cell.proofs.Laws.{known_of_piece}
use Rattle.sp_code.specs.declared.code.ChildTable.{ChildTable}
use Rattle.sp_code.specs.declared.instr.Instr.TheVariants as i
use Rattle.sp_code.specs.TreeCode.{child_table}
use Rattle.sp_code.specs.Machine.{Entry, At}
use Rattle.sp_code.specs.Memory.{Memory, position_at}
use Rattle.sp_code.specs.Memory as mem
use Rattle.sp_code.specs.Places.{after_statement}
use Rattle.sp_code.specs.PlainStore.{plain}
use Rattle.sp_code.specs.Scopes.{Scope, level, is_index, slot}
use Rattle.sp_code.specs.Scopes as places
use Rattle.sp_code.specs.CodeOfTree.{CodeAt as StandsIn, HasFork, HasWords, StatementAt}
use Rattle.sp_code.specs.System.{child_process, handing_of}
use Rattle.sp_codegen.specs.FramePairs.{FramePair, sources, pairs_from}
use Rattle.sp_codegen.specs.ProcessInfos.{Seen}
use Rattle.sp_codegen.specs.Relation.{Placed}
use Rattle.sp_codegen.specs.MemoryRelation.{Agrees, spot_at}
use Rattle.sp_codegen.proofs.Begins.{index_child_begins, memory_in}
use Rattle.sp_codegen.proofs.Birth.{low_small}
use Rattle.sp_codegen.proofs.ChildIndexes.{child_follows}
use Rattle.sp_codegen.proofs.HandedUses.{MovedStands, moved_stands, shared_piece, output_unshared}
use Rattle.sp_codegen.proofs.Owners.{no_longer_owner}
use Rattle.sp_codegen.proofs.Slots.{no_index_console}
use Rattle.sp_link.proofs.ChildrenStand.{reached_formed, consoles}
use Rattle.sp_link.proofs.Relation.{RunContext, BirthRights, Called, Named, Fresh, St, ProcessMatches, Handed}
use Rattle.sp_link.proofs.Relation.{execution, run_is}
use Rattle.sp_link.proofs.DeclaredUses.{is_scoped, index_further}

module _ (G : RunContext) (lf : BirthRights) (kids : ℕ → ℕ → BirthRights) (q : Name) where
  abbrev Wr : Loc → Type 0
  Wr l = OwnLocation q l ⊎ lf.W l

  abbrev Rd : Loc → Type 0
  Rd l = OwnLocation q l ⊎ lf.R l

  module _ (f : Fresh G lf kids q) {w : Identity} {since : ℕ} {js : List FramePair} {o : LocalState} {s : Store}
      {n : Memory Plain}
      (t : St G lf kids q w since js o s n) (may_fork : o.depth + 1 ≤ G.g.limits.depth)
      (x : ℕ) (from1 to : Expr) (st : Stmt) (sc : List Scope)
      (pl : Placed G.g Wr Rd lf.J sc js (In_stmt (Forall x from1 to st))) (entry : ℕ)
      (body : StatementAt G.g.program G.moves G.shares (StandsIn G.code) (HasFork G.code)
      (HasWords G.code) G.callable true
      (places.OfIndex x ∷ sc) entry st) (ends : slice_get G.code.instrs (after_statement G.g.program entry st)
      ≡ Some i.End)
      (child : Name) (longer : suc (length w.name) ≤ length child) (value : ℤ) (j : ℕ) where
    -- the element statement has no target, and its index is that of a forall
    pub no_target : (y : ℕ) → IsTarget G.g.program (In_stmt st) y → ⊥
    no_target = (pl.sound.kept (ForallOf x st) (inl refl)).1

    is_index_of : IsIndexOf G.g.program x
    is_index_of = (pl.sound.kept (ForallOf x st) (inl refl)).0

    not_output : x ≢ 1
    not_output e = no_index_console is_index_of.0 G.free.output.0
        (sym is_index_of.1 ∙ ap (λ y. slice_get G.g.program.variables y) e ∙ G.free.output.1) is_index_of.2
        G.free.output.2

    formed_here : (u : Use) → In_stmt st u → IsFormedUse G.g.program u
    formed_here (Target y) a = absurd (no_target y ([], a))
    formed_here (use_of.Seen y) a = go (x == y) refl
      where
        go : (b : Bool) → x == y ≡ b → y ≢ 1
        go true e = λ h. not_output (eqb-true x y e ∙ h)
        go false e = pl.formed (use_of.Seen y)
            (inr (inr (inr (inl (a, λ h. (let bad : false ≡ true = sym e ∙ eq-eqb x y h in absurd (cc bad)))))))
    formed_here (CallOf b args) a = pl.formed (CallOf b args) (inr (inr (inr (inl (a, tt)))))
    formed_here (ParallelOf ss) a = pl.formed (ParallelOf ss) (inr (inr (inr (inl (a, tt)))))
    formed_here (ForallOf y s) a = pl.formed (ForallOf y s) (inr (inr (inr (inl (a, tt)))))
    formed_here Stop a = pl.formed Stop (inr (inr (inr (inl (a, tt)))))

    unread : IsUsed G.g.program (In_stmt st) 1 → IsTarget G.g.program (In_stmt st) 1
    unread (inl a) = a
    unread (inr a) = absurd (reached_formed G a.0 formed_here (use_of.Seen 1) a.1 refl)

    sound : Sound G.g.program Wr Rd (sources js) (In_stmt st)
    sound = element_sound x from1 to st pl.sound

    new_name : (h : ℕ) (j : FramePair) (rest : List FramePair) → pairs_from (suc h) js ≡ j ∷ rest
        → j.source.owner ≡ child → ⊥
    new_name = no_longer_owner (length w.name) js child t.frames.owners longer

    abbrev pub table : ChildTable
    table = child_table G.g.program G.moves G.shares entry (Some x) st

    abbrev pub handing : Handing
    handing = handing_of G.code.layouts n.frames value j table

    -- nothing moves to it
    pub nothing_moves : (a : Spot) → In a handing.moved → ⊥
    nothing_moves a h = by (moved_stands G.g G.code w (Named G) (Called G) Wr Rd lf.J lf.low (length lf.below) lf.born
        since G.pause lf.moved G.formed G.laid G.free f.reads G.moves G.shares G.sets t st sound unread child new_name
        table refl refl value j
        (consoles G lf kids q) (λ y k m. no_target y m) (λ y m. absurd (no_target y m)) a h)
      where
        by : MovedStands G.g G.code w (Named G) (Called G) Wr Rd lf.J lf.low (length lf.below) lf.born since G.pause
            lf.moved G.formed G.laid G.free f.reads G.moves G.shares G.sets t st sound unread child new_name table refl
            refl value j a → ⊥
        by (inl (_, (variable, target, _))) = no_target variable target
        by (inr (inl (_, (variable, target, _)))) = no_target variable target
        by (inr (inr (_, _, _, _, (number, target, _), _, _))) = no_target number target

    -- an index that it uses, other than its own, is in scope around the forall
    in_scope : (y : ℕ) → IsUsed G.g.program (In_stmt st) y → (Some x ≡ Some y → ⊥) → (v : Variable)
        × (slice_get G.g.program.variables y ≡ Some v)
        × (v.role ≡ role.Index → In_stmt st (use_of.Seen y) × ((up : ℕ) × (level (is_index y) sc ≡ Some up)))
    in_scope y u other = let a = is_scoped G true (places.OfIndex x ∷ sc) entry st body formed_here y u in
        (a.0, a.1, λ iv. (let k = a.2 iv in (k.0, further k.1)))
      where
        further : (up : ℕ) × (level (is_index y) (places.OfIndex x ∷ sc) ≡ Some up) → (up : ℕ)
            × (level (is_index y) sc ≡ Some up)
        further r = index_further sc x y r.0 (λ h. other (ap Some h)) r.1

    index_held : (y up : ℕ) → (Some x ≡ Some y → ⊥) → In_stmt st (use_of.Seen y) → level (is_index y) sc ≡ Some up
        → (k : FramePair) (rest : List FramePair) → Rattle.sp_codegen.specs.FramePairs.up_at up js ≡ k ∷ rest
        → lf.J (length rest)
    index_held y up other a l k rest e = pl.indexes y up (inr (inr (inr (inl (a, λ h. other (ap Some h)))))) l k rest e

    -- of what it shares its parent has pieces
    pub shares_piece : (a : Spot) → In a handing.shared → IsPiece (fin.get n.store.map a)
    shares_piece a h = shared_piece G.g G.code w (Named G) (Called G) Wr Rd lf.J lf.low (length lf.below) lf.born since
        G.pause lf.moved G.formed G.laid G.free f.reads G.moves G.shares G.sets t st sound unread child new_name table
        refl refl value j
        (consoles G lf kids q) sc pl.chain index_held in_scope a h

    pub shares_known : (a : Spot) → In a handing.shared → IsSome (fin.get n.store.map a)
    shares_known a h = known_of_piece (fin.get n.store.map a) (shares_piece a h)

    pub output_stays : Rd Output → In output_spot handing.shared → ⊥
    output_stays may h = output_unshared G.g G.code w (Named G) (Called G) Wr Rd lf.J lf.low (length lf.below) lf.born
        since G.pause lf.moved G.formed G.laid G.free f.reads G.moves G.shares G.sets t st sound unread child new_name
        table refl refl value j
        (consoles G lf kids q) sc pl.chain index_held in_scope may h

    module _ (number : ℕ) where
      -- the frame of its index
      abbrev pub with_index : FramePair
      with_index = record {
        source = record {
          owner = child;
          number = length js;
          home = OfIndex x (value +ℤ pos j);
          link = length js;
          references = [];
        };
        machine = record {
          owner = number;
          number = index_frame handing;
          home = mem.OfIndex x;
          link = length n.frames;
          references = [];
        };
      }

      -- what its birth gives it
      abbrev pub life : BirthRights
      life = record {
        W = λ l. Aimed G.g.program (sources js) st l;
        R = λ l. Used G.g.program (sources js) st l;
        J = λ h. Seen (places.OfIndex x ∷ sc) (with_index ∷ js) st h;
        low = suc (index_frame handing);
        born = o.depth + 1;
        moved = handing.moved;
        below = with_index ∷ js;
        end = after_statement G.g.program entry st;
      }

      abbrev pub own : Process
      own = record {
        todo = push st [];
        who = record { name = child; forks = 0; opens = 0 };
        own = record { frames = sources (with_index ∷ js); depth = o.depth + 1; ticks = 0; cells = 0 };
      }

      -- its parent keeps of it that nothing moved
      pub each_handed : Handed G lf kids q js n life child
      each_handed = record {
        live = λ r h y l m a. absurd (nothing_moves (spot_at l.joint.machine.number (slot G.g.program y)) a);
        aims = λ r h y l a. absurd (no_target a.0 a.1);
        no_index = λ h jh k rest y v e hi. ⊎_elim (λ a. absurd (nothing_moves (spot_at k.machine.number 0) a)) (λ d. d)
            (in_or (spot_at k.machine.number 0) handing.moved);
        input = λ m a. absurd (nothing_moves position_at.spot a);
        output = λ m a. absurd (nothing_moves output_spot a);
        input_aims = λ a. absurd (no_target a.0 a.1);
        output_aims = λ a. absurd (no_target a.0 a.1);
        old = λ a h. absurd (nothing_moves a h);
        kept = λ a h. absurd (nothing_moves a h);
      }

      module _ (called : Called G child number) (pc : ℕ) (stack : List Entry) (more : ℕ → ℕ → BirthRights) where
        begins : Agrees G.g G.code own.who (Named G) (Called G) (λ l. OwnLocation child l ⊎ life.W l)
            (λ l. OwnLocation child l ⊎ life.R l) life.J life.low (length (with_index ∷ js)) life.born 0 G.pause
            life.moved
            (with_index ∷ js) own.own s
            (memory_in (child_process plain (run_is G) (At pc stack n) value number j table))
            × Placed G.g (λ l. OwnLocation child l ⊎ life.W l) (λ l. OwnLocation child l ⊎ life.R l) life.J
            (places.OfIndex x ∷ sc)
            (with_index ∷ js) (In_stmt st)
        begins = index_child_begins G.g G.code w (Named G) (Called G) Wr Rd lf.J lf.low (length lf.below) lf.born since
            G.pause lf.moved f.based G.formed G.laid G.free f.reads G.moves G.shares G.sets (consoles G lf kids q) t
            may_fork
            x from1 to st sc pl entry j unread own.who longer number called pc stack value
            (λ a h. absurd (nothing_moves a h))

        pub fresh : Fresh G life more child
        fresh = record {
          based = omega arith;
          reads = λ l h. ⊎_elim (λ a. inl a) (λ a. inr (a.0, inl a.1, a.2)) h;
          low_small = low_small G.g G.code w (Named G) (Called G) Wr Rd lf.J lf.low (length lf.below) lf.born since
              G.pause lf.moved f.based t may_fork handing (λ a h. absurd (nothing_moves a h)) own.who
              (omega (arith, longer)) number called (λ a. ⊥) (λ a. ⊥) (λ a. ⊥)
              (λ r h y l a. absurd a) (λ h a lt k rest e. absurd a) (λ a. absurd a) (λ a. absurd a) shares_known
              f.low_small;
          ends = ends;
        }

        pub each_stands : ProcessMatches G life more child 0 own s
            (child_process plain (run_is G) (At pc stack n) value number j table)
        each_stands = record {
          fresh = fresh;
          named = refl;
          js = with_index ∷ js;
          pc = entry;
          stack = [];
          memory = memory_in (child_process plain (run_is G) (At pc stack n) value number j table);
          configuration_is = refl;
          stand = begins.0;
          follows = child_follows (execution G life more child fresh own.who refl 0) st (places.OfIndex x ∷ sc) entry
              (G.moves st) (G.shares st) None (with_index ∷ js) begins.1 body;
        }
