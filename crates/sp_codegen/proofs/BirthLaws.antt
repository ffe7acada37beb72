-- The first process, the children of a fork, and their parent: each stands where it begins, and stands again where it
-- goes on.
use Rattle.std.proofs.Common.{◌≡◌, ◌⊎◌, inl, inr, ℕ, suc, ◌+◌, ◌≤◌, ◌<◌, ℤ, List, [], ◌∷◌, length, Some, None, refl}
use Rattle.std.proofs.Common.{sym, ap, subst, arith, true, ◌++◌}
use Rattle.std.specs.Prelude.{◌+ℤ◌, pos, IsSome, slice_get}
use Rattle.std.specs.FinMap as fin
use Rattle.sp_tree.specs.declared.checked.Role.TheVariants as role
use Rattle.sp_tree.specs.TreeShape.{IsFormedUse}
use Rattle.sp_tree.specs.Plain.{Variable, Block, Expr, Stmt, Stmts, Parallel, Forall}
use Rattle.sp_tree.specs.Sets.{Reach, IsTarget, IsUsed}
use Rattle.sp_tree.specs.Uses.{Use, Seen, In_stmt}
use Rattle.sp_cell.specs.declared.spot.Handing.{Handing}
use Rattle.sp_cell.specs.declared.spot.Spot.{Spot}
use Rattle.sp_cell.specs.Fork.{index_frame, map_after_fork, map_after_join, moved_of, shared_of}
use Rattle.sp_cell.specs.Map.{Map, Plain, output_spot, with_map}
use Rattle.sp_cell.specs.Spots.{In, NotIn}
use Rattle.sp_meaning.specs.Model.{Name, Channel}
use Rattle.sp_meaning.specs.LocalWork.{RunInput, Loc, Output, LocalState, Identity}
use Rattle.sp_meaning.specs.Actions.{Birth, push, size_of_frame}
use Rattle.sp_meaning.specs.Run.{Store}
use Rattle.sp_meaning.specs.SuperPascal.{root, first_store}
use Rattle.sp_code.specs.declared.code.ChildTable.{ChildTable}
use Rattle.sp_code.specs.declared.instr.Instr.TheVariants as i
use Rattle.sp_code.specs.TreeCode.{program_code, child_table}
use Rattle.sp_code.specs.Machine.{Entry, At, layout_of}
use Rattle.sp_code.specs.Memory.{Memory, first_process, first_memory, entry_of}
use Rattle.sp_code.specs.Places.{after_statement}
use Rattle.sp_code.specs.PlainStore.{plain}
use Rattle.sp_code.specs.NeverStops.{NeverStops}
use Rattle.sp_code.specs.Scopes.{Scope, OfIndex, scopes_of}
use Rattle.sp_code.specs.Shares.{SetsAre}
use Rattle.sp_code.specs.CodeOfTree.{BlockAt, BlocksAt, StatementAt, CodeAt as Instr_at, HasFork, HasWords}
use Rattle.sp_code.specs.System.{child_process, handing_of}
use Rattle.sp_code.proofs.Blocks.{blocks_stand, layout_found}
use Rattle.sp_codegen.specs.CodePositions.{CodeFollows}
use Rattle.sp_codegen.specs.FramePairs.{FramePair, sources, pairs_from}
use Rattle.sp_codegen.specs.ProcessInfos.{IsCompilable, ProcessInfo, IsProcessInfo, Named, Called, IsWritableLoc}
use Rattle.sp_codegen.specs.ProcessInfos.{IsReadable, Indexes, MemoryMatches, Laws}
use Rattle.sp_codegen.specs.ProcessInfos.{execution_of, IsPlaced, IsAt, IsAboutToBegin, first_info, child_info}
use Rattle.sp_codegen.specs.ProcessInfos.{own_at_birth, HasHanded}
use Rattle.sp_codegen.specs.ProcessInfos.{IsAway}
use Rattle.sp_codegen.specs.TurnAgrees.{code_run}
use Rattle.sp_codegen.specs.Parents.{ChildIs, JoiningStands, GivesBack}
use Rattle.sp_codegen.specs.Relation.{Placed}
use Rattle.sp_codegen.specs.MemoryRelation.{Agrees}
use Rattle.sp_codegen.proofs.Begins.{child_begins, index_child_begins, memory_in}
use Rattle.sp_codegen.proofs.Birth.{low_small}
use Rattle.sp_codegen.proofs.ChildIndexes.{child_follows}
use Rattle.sp_codegen.proofs.Returns.{Laid}
use Rattle.sp_codegen.proofs.FirstTurn.{laid_of}
use Rattle.sp_codegen.proofs.Follows.{push_follows, slides}
use Rattle.sp_codegen.proofs.Joins.{all_joined, stand_same, joining_more, handed_joining, joined_joining}
use Rattle.sp_codegen.proofs.ProcessInfoLaws.{reads_all}
use Rattle.sp_codegen.proofs.Root.{j0, root_stands, root_placed}

module _ (g : RunInput) (moves shares : Stmt → List ℕ) (pause : ℕ) (tree : IsCompilable g.program moves shares) where
  blocks : BlocksAt g.program moves shares (program_code g.program moves shares) (NeverStops g.program)
  blocks = blocks_stand g.program moves shares (NeverStops g.program) tree.fine

  laid : Laid g.program (program_code g.program moves shares).layouts
  laid = laid_of g.program (program_code g.program moves shares) moves shares (NeverStops g.program) blocks
      (λ f l e. layout_found g.program f l e)

  -- ---- the first process

  pub first_begins : (channels : List Channel) (processes : List Name) (b : Block)
      → slice_get g.program.blocks 0 ≡ Some b → size_of_frame g 0 ≤ g.limits.cells → slice_get processes 0 ≡ Some []
      → (js : List FramePair) × IsAboutToBegin g moves shares pause (first_info channels processes) js (push b.body [])
      (root g).own
      (first_store g) (first_process plain (code_run g (program_code g.program moves shares) pause))
  first_begins channels processes b eb fits called = (js, λ h. go h)
    where
      code : Rattle.sp_code.specs.declared.code.Parts.Parts
      code = program_code g.program moves shares

      N : Channel → ℕ → Type 0
      N c j = slice_get channels j ≡ Some c

      C : Name → ℕ → Type 0
      C q k = slice_get processes k ≡ Some q

      js : List FramePair
      js = j0 g code tree.formed laid b eb pause N C called ∷ []

      layout : BlockAt g.program moves shares code (NeverStops g.program) 0 b
      layout = blocks 0 b eb

      end : ℕ
      end = after_statement g.program layout.layout.entry b.body

      entry_is : entry_of plain (code_run g code pause) (layout_of code.layouts 0) ≡ layout.layout.entry
      entry_is = ap (λ z. entry_of plain (code_run g code pause) z)
          (layout_found g.program 0 layout.layout layout.layout_at)

      go : (h : Laws g moves shares pause (first_info channels processes)) → (end : ℕ)
          × IsAt g moves shares pause (first_info channels processes) h end [] js js (push b.body [])
          (entry_of plain (code_run g code pause) (layout_of code.layouts 0)) [] (root g).own (first_store g)
          (first_memory plain (code_run g code pause) (layout_of code.layouts 0))
      go h = (
        end,
        record {
          stands = root_stands g code tree.formed laid b eb pause N C called fits;
          follows = subst (λ z. CodeFollows (execution_of g moves shares pause (first_info channels processes) h)
              end [] js
              z [] js (push b.body [])) (sym entry_is)
              (push_follows (execution_of g moves shares pause (first_info channels processes) h) b.body end [] js
              (scopes_of g.program 0) layout.layout.entry [] js []
              (root_placed g code tree.formed laid b eb pause N C called tree.free) (layout.stands.body true tt)
              (slides (execution_of g moves shares pause (first_info channels processes) h) end [], refl, refl));
          ends = layout.stands.end;
          outer = refl;
        },
      )

  -- what is reached from uses that are formed is formed
  reached_formed : (bs : List ℕ) (Here : Use → Type 0) (u : Use) → ((u : Use) → Here u → IsFormedUse g.program u)
      → Reach g.program Here bs u → IsFormedUse g.program u
  reached_formed [] Here u formed r = formed u r
  reached_formed (f ∷ bs) Here u formed step =
      reached_formed bs (In_stmt step.block.body) u (tree.formed.uses f step.block step.is_block) step.rest

  -- nothing reads the output
  unread : {Here : Use → Type 0} → ((u : Use) → Here u → IsFormedUse g.program u) → IsUsed g.program Here 1
      → IsTarget g.program Here 1
  unread formed (inl a) = a
  unread {Here} formed (inr a) = absurd (reached_formed a.0 Here (Seen 1) formed a.1 refl)

  module _ (life : ProcessInfo) (live : IsProcessInfo life) (sets : SetsAre g.program moves shares)
      (js : List FramePair) (o : LocalState)
      (s : Store) (n : Memory Plain) (stands : MemoryMatches g moves shares pause life js o s n)
      (may_fork : o.depth + 1 ≤ g.limits.depth)
      (v : Identity) (longer : suc (length life.who.name) ≤ length v.name) (number : ℕ)
      (called : slice_get life.processes number ≡ Some v.name) (pc : ℕ) (stack : List Entry) (value : ℤ)
      (sc : List Scope) where
    abbrev code : Rattle.sp_code.specs.declared.code.Parts.Parts
    code = program_code g.program moves shares

    consoles : (y : ℕ) (x : Variable) → slice_get g.program.variables y ≡ Some x → x.role ≡ role.Console → y < 2
    consoles y x e r = (tree.free.consoles y x e r).1

    is_life : (older frames : List FramePair) (scopes : List Scope) (st : Stmt) (h : Handing) → 1 ≤ length frames
        → HasHanded n h → IsProcessInfo (child_info life v older scopes frames st o.depth h)
    is_life older frames scopes st h some known = record {
      channels = live.channels;
      based = some;
      low = low_small g code life.who (λ c j. Named g moves shares pause life c j)
          (λ q k. Called g moves shares pause life q k) (λ l. IsWritableLoc g moves shares pause life l)
          (λ l. IsReadable g moves shares pause life l) (λ k. Indexes g moves shares pause life k) life.low life.base
          life.born life.since pause life.moved live.based stands may_fork h
          (λ q m. known q (inl m)) v (omega (arith, longer)) number called (λ a. ⊥) (λ a. ⊥) (λ a. ⊥)
          (λ r k x l a. absurd a) (λ k a lt j rest e. absurd a) (λ a. absurd a) (λ a. absurd a)
          (λ q m. known q (inr m)) live.low;
    }

    -- ---- a child of a parallel statement

    pub child_begins_so : (ss : Stmts) (q k : ℕ) (b : Birth)
        → IsPlaced g moves shares pause life sc js (In_stmt (Parallel ss))
        → ((u : Use) → In_stmt (Parallel ss) u → IsFormedUse g.program u)
        → (z : ChildIs g.program moves shares code (NeverStops g.program) true sc ss q k b)
        → HasHanded n (handing_of code.layouts n.frames value k
        (child_table g.program moves shares z.entry None z.statement))
        → IsProcessInfo (child_info life v js sc js z.statement o.depth
        (handing_of code.layouts n.frames value k (child_table g.program moves shares z.entry None z.statement)))
        × IsAboutToBegin g moves shares pause (child_info life v js sc js z.statement o.depth
        (handing_of code.layouts n.frames value k (child_table g.program moves shares z.entry None z.statement))) js
        b.todo (own_at_birth o.frames o.depth) s
        (child_process plain (code_run g code pause) (At pc stack n) value number k
        (child_table g.program moves shares z.entry None z.statement))
    child_begins_so ss q k b pl formed z known = (
      is_life js js sc z.statement h1
          (let a = stands.frames.above_base in let c = live.based in omega (arith, a, c)) known,
      λ l. go l,
    )
      where
        table : ChildTable
        table = child_table g.program moves shares z.entry None z.statement

        h1 : Handing
        h1 = handing_of code.layouts n.frames value k table

        lf : ProcessInfo
        lf = child_info life v js sc js z.statement o.depth h1

        begun : MemoryMatches g moves shares pause lf js (own_at_birth o.frames o.depth) s
            (memory_in (child_process plain (code_run g code pause) (At pc stack n) value number k table))
            × Placed g (λ l. IsWritableLoc g moves shares pause lf l) (λ l. IsReadable g moves shares pause lf l)
            (λ y. Indexes g moves shares pause lf y) sc js (In_stmt z.statement)
        begun = child_begins g code life.who (λ c j. Named g moves shares pause life c j)
            (λ q k. Called g moves shares pause life q k) (λ l. IsWritableLoc g moves shares pause life l)
            (λ l. IsReadable g moves shares pause life l) (λ h. Indexes g moves shares pause life h) life.low life.base
            life.born life.since pause life.moved live.based
            tree.formed laid tree.free (λ l w. reads_all g moves shares pause life tree life.who.name life.given l w)
            moves shares sets consoles stands may_fork ss sc pl (NeverStops g.program) q k b z
            (unread (λ u a. formed u (inr (inl (z.inside u a))))) v longer number called pc stack value
            (λ q m. known q (inl m))

        todo_is : b.todo ≡ push z.statement []
        todo_is = ap (λ (y : Birth). y.todo) z.birth

        go : (l : Laws g moves shares pause lf) → (end : ℕ)
            × IsAt g moves shares pause lf l end [] js js b.todo z.entry [] (own_at_birth o.frames o.depth) s
            (memory_in (child_process plain (code_run g code pause) (At pc stack n) value number k table))
        go l = (
          after_statement g.program z.entry z.statement,
          record {
            stands = begun.0;
            ends = z.end;
            outer = refl;
            follows = subst (λ y. CodeFollows (execution_of g moves shares pause lf l)
                (after_statement g.program z.entry z.statement)
                [] js z.entry [] js y) (sym todo_is)
                (child_follows (execution_of g moves shares pause lf l) z.statement sc z.entry (moves z.statement)
                (shares z.statement) None js begun.1 z.body);
          },
        )

    -- ---- a child of a forall, with its index

    pub index_child_begins_so : (x : ℕ) (pairs_from to : Expr) (st : Stmt) (entry k : ℕ)
        → (pl : IsPlaced g moves shares pause life sc js (In_stmt (Forall x pairs_from to st)))
        → ((u : Use) → In_stmt st u → IsFormedUse g.program u)
        → StatementAt g.program moves shares (Instr_at code) (HasFork code) (HasWords code) (NeverStops g.program) true
        (OfIndex x ∷ sc) entry st → slice_get code.instrs (after_statement g.program entry st) ≡ Some i.End
        → HasHanded n (handing_of code.layouts n.frames value k (child_table g.program moves shares entry (Some x) st))
        → (j : FramePair) × (j.source ≡ record {
          owner = v.name;
          number = length js;
          home = Rattle.sp_meaning.specs.LocalWork.OfIndex x (value +ℤ pos k);
          link = length js;
          references = [];
        })
        × IsProcessInfo (child_info life v js (OfIndex x ∷ sc) (j ∷ js) st o.depth
        (handing_of code.layouts n.frames value k (child_table g.program moves shares entry (Some x) st)))
        × IsAboutToBegin g moves shares pause (child_info life v js (OfIndex x ∷ sc) (j ∷ js) st o.depth
        (handing_of code.layouts n.frames value k (child_table g.program moves shares entry (Some x) st))) (j ∷ js)
        (push st []) (own_at_birth (sources (j ∷ js)) o.depth) s
        (child_process plain (code_run g code pause) (At pc stack n) value number k
        (child_table g.program moves shares entry (Some x) st))
    index_child_begins_so x pairs_from to st entry k pl formed body ends known = (jx, refl, is, λ l. go l)
      where
        table : ChildTable
        table = child_table g.program moves shares entry (Some x) st

        h : Handing
        h = handing_of code.layouts n.frames value k table

        jx : FramePair
        jx = record {
          source = record {
            owner = v.name;
            number = length js;
            home = Rattle.sp_meaning.specs.LocalWork.OfIndex x (value +ℤ pos k);
            link = length js;
            references = [];
          };
          machine = record {
            owner = number;
            number = index_frame h;
            home = Rattle.sp_code.specs.Memory.OfIndex x;
            link = length n.frames;
            references = [];
          };
        }

        lf : ProcessInfo
        lf = child_info life v js (OfIndex x ∷ sc) (jx ∷ js) st o.depth h

        is : IsProcessInfo lf
        is = is_life js (jx ∷ js) (OfIndex x ∷ sc) st h (omega arith) known

        begun : MemoryMatches g moves shares pause lf (jx ∷ js) (own_at_birth (sources (jx ∷ js)) o.depth) s
            (memory_in (child_process plain (code_run g code pause) (At pc stack n) value number k table))
            × Placed g (λ l. IsWritableLoc g moves shares pause lf l) (λ l. IsReadable g moves shares pause lf l)
            (λ y. Indexes g moves shares pause lf y) (OfIndex x ∷ sc) (jx ∷ js) (In_stmt st)
        begun = index_child_begins g code life.who (λ c j. Named g moves shares pause life c j)
            (λ q k. Called g moves shares pause life q k) (λ l. IsWritableLoc g moves shares pause life l)
            (λ l. IsReadable g moves shares pause life l) (λ h. Indexes g moves shares pause life h) life.low life.base
            life.born life.since pause life.moved live.based
            tree.formed laid tree.free (λ l w. reads_all g moves shares pause life tree life.who.name life.given l w)
            moves shares sets consoles stands may_fork x pairs_from to st sc pl entry k
            (unread formed) v longer number called pc stack value (λ q m. known q (inl m))

        go : (l : Laws g moves shares pause lf) → (end : ℕ)
            × IsAt g moves shares pause lf l end [] (jx ∷ js) (jx ∷ js) (push st []) entry []
            (own_at_birth (sources (jx ∷ js)) o.depth) s
            (memory_in (child_process plain (code_run g code pause) (At pc stack n) value number k table))
        go l = (
          after_statement g.program entry st,
          record {
            stands = begun.0;
            ends = ends;
            outer = refl;
            follows = child_follows (execution_of g moves shares pause lf l) st (OfIndex x ∷ sc) entry (moves st)
                (shares st) (Some x) (jx ∷ js) begun.1 body;
          },
        )

  -- ---- a parent and its children; what others do

  module _ (life : ProcessInfo) where
    pub same_stands : (js : List FramePair) (o : LocalState) (s t : Store) (n : Memory Plain)
        → MemoryMatches g moves shares pause life js o s n
        → ((l : Loc) → IsReadable g moves shares pause life l → t l ≡ s l)
        → MemoryMatches g moves shares pause life js o t n
    same_stands js o s t n st same = stand_same g (program_code g.program moves shares) life.who
        (λ c j. Named g moves shares pause life c j) (λ q k. Called g moves shares pause life q k)
        (λ l. IsWritableLoc g moves shares pause life l) (λ l. IsReadable g moves shares pause life l)
        (λ h. Indexes g moves shares pause life h) life.low life.base life.born life.since pause life.moved st t same

    -- with what the children have moved and not brought back
    pub parent_joins : (js : List FramePair) (o : LocalState) (s : Store) (n : Memory Plain) (hs : List Handing)
        → MemoryMatches g moves shares pause life js o s n
        → ((q : Spot) → In q (moved_of hs) ⊎ In q (shared_of hs) → IsSome (fin.get n.store.map q))
        → (IsReadable g moves shares pause life Output → NotIn output_spot (shared_of hs))
        → JoiningStands g moves shares pause life (IsAway hs []) js o s n (map_after_fork n.store.map hs)
    parent_joins js o s n hs st known dry =
        joining_more g (program_code g.program moves shares) life.who (λ c j. Named g moves shares pause life c j)
        (λ q k. Called g moves shares pause life q k) (λ l. IsWritableLoc g moves shares pause life l)
        (λ l. IsReadable g moves shares pause life l) (λ h. Indexes g moves shares pause life h) life.low life.base
        life.born life.since pause life.moved
        (λ q i. (i, tt)) (handed_joining g (program_code g.program moves shares) life.who
        (λ c j. Named g moves shares pause life c j) (λ q k. Called g moves shares pause life q k)
        (λ l. IsWritableLoc g moves shares pause life l) (λ l. IsReadable g moves shares pause life l)
        (λ h. Indexes g moves shares pause life h) life.low life.base life.born life.since pause life.moved st hs
        known dry)

    pub parent_goes_on : (hs : List Handing) (back : List Spot) (js : List FramePair) (o : LocalState) (s : Store)
        (n : Memory Plain) (mp : Map) → ((q : Spot) → IsAway hs back q → ⊥)
        → JoiningStands g moves shares pause life (IsAway hs back) js o s n mp
        → MemoryMatches g moves shares pause life js o s (record n { store = with_map n.store mp })
    parent_goes_on hs back js o s n mp none t =
        all_joined g (program_code g.program moves shares) life.who (λ c j. Named g moves shares pause life c j)
        (λ q k. Called g moves shares pause life q k) (λ l. IsWritableLoc g moves shares pause life l)
        (λ l. IsReadable g moves shares pause life l) (λ h. Indexes g moves shares pause life h) life.low life.base
        life.born life.since pause life.moved none t

    not_in_both : (q : Spot) (xs ys : List Spot) → NotIn q xs → NotIn q ys → NotIn q (xs ++ ys)
    not_in_both q [] ys a b = b
    not_in_both q (x ∷ xs) ys a b = (a.0, not_in_both q xs ys a.1 b)

    pub child_gives_back : (hs : List Handing) (back : List Spot) (js : List FramePair) (o : LocalState) (s : Store)
        (n : Memory Plain) (mp : Map) (child : ProcessInfo) (ks : List FramePair) (oc : LocalState) (nc : Memory Plain)
        → child.channels ≡ life.channels → child.processes ≡ life.processes
        → JoiningStands g moves shares pause life (IsAway hs back) js o s n mp
        → MemoryMatches g moves shares pause child ks oc s nc
        → GivesBack g moves shares pause life child js ks n nc
        → JoiningStands g moves shares pause life (IsAway hs (back ++ nc.store.moved)) js o s n
        (map_after_join mp nc.store)
    child_gives_back hs back js o s n mp child ks oc nc ec ep t st gb =
        joining_more g (program_code g.program moves shares) life.who (λ c j. Named g moves shares pause life c j)
        (λ q k. Called g moves shares pause life q k) (λ l. IsWritableLoc g moves shares pause life l)
        (λ l. IsReadable g moves shares pause life l) (λ h. Indexes g moves shares pause life h) life.low life.base
        life.born life.since pause life.moved
        (λ q i. let (away, not_now) = i in let (moved, not_before) = away in
        (moved, not_in_both q back nc.store.moved not_before not_now))
        (joined_joining g (program_code g.program moves shares) life.who
        (λ c j. Named g moves shares pause life c j) (λ q k. Called g moves shares pause life q k)
        (λ l. IsWritableLoc g moves shares pause life l) (λ l. IsReadable g moves shares pause life l)
        (λ h. Indexes g moves shares pause life h) life.low life.base life.born life.since pause life.moved
        t child.who (λ l. IsWritableLoc g moves shares pause child l) (λ l. IsReadable g moves shares pause child l)
        (λ h. Indexes g moves shares pause child h) child.low child.base child.born child.since pause child.moved
        stands gb.live gb.no_index gb.input gb.output gb.kept gb.old)
      where
        stands : Agrees g (program_code g.program moves shares) child.who (λ c j. slice_get life.channels j ≡ Some c)
            (λ q k. slice_get life.processes k ≡ Some q) (λ l. IsWritableLoc g moves shares pause child l)
            (λ l. IsReadable g moves shares pause child l) (λ h. Indexes g moves shares pause child h) child.low
            child.base child.born child.since pause child.moved ks oc s nc
        stands = subst (λ cs. Agrees g (program_code g.program moves shares) child.who (λ c j. slice_get cs j ≡ Some c)
            (λ q k. slice_get life.processes k ≡ Some q) (λ l. IsWritableLoc g moves shares pause child l)
            (λ l. IsReadable g moves shares pause child l) (λ h. Indexes g moves shares pause child h) child.low
            child.base child.born child.since pause child.moved ks oc s nc) ec
            (subst (λ ps. Agrees g (program_code g.program moves shares) child.who
            (λ c j. slice_get child.channels j ≡ Some c) (λ q k. slice_get ps k ≡ Some q)
            (λ l. IsWritableLoc g moves shares pause child l) (λ l. IsReadable g moves shares pause child l)
            (λ h. Indexes g moves shares pause child h) child.low child.base child.born child.since pause
            child.moved ks oc s nc) ep st)
