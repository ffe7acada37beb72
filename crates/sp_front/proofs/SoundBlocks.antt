-- The blocks of a tree that breaks no rule are fine.
use Rattle.std.proofs.Common.{◌≡◌, refl, sym, subst, ℕ, zero, suc, ◌+◌, List, [], ◌∷◌, Option, Some, None, Bool, true}
use Rattle.std.proofs.Common.{false, length, slice_get, arith}
use Rattle.std.specs.Prelude.{map}
use Rattle.std.proofs.lemmas.Option.{same_Some}
use Rattle.sp_tree.specs.declared.checked.Variable as checked
use Rattle.sp_tree.specs.NameFirst.{both_lists, broken_name_rules}
use Rattle.sp_tree.specs.PhaseResults.{refusal_list}
use Rattle.sp_tree.specs.Cells.{sizes}
use Rattle.sp_tree.specs.Plain as plain
use Rattle.sp_tree.specs.Plain.{Stmt, Actuals}
use Rattle.sp_tree.specs.PlainNamed as n
use Rattle.sp_tree.specs.PlainSyntax as syntax
use Rattle.sp_tree.specs.Uses.{ForallOf, Stop, CallOf, In_stmt}
use Rattle.sp_code.specs.NeverStops.{NeverStops}
use Rattle.sp_tree.specs.Interference.{IsFreeOfInterference}
use Rattle.sp_code.specs.Scopes.{is_index, level, one_more, scopes_by, scopes_of, parent_of}
use Rattle.sp_types.specs.Tables.{Env, env_of, constants_of, numbers_of}
use Rattle.sp_types.specs.TypeRules.{frame_rule, frame_cells}
use Rattle.sp_types.specs.TypeFirst.{types_broken}
use Rattle.sp_types.specs.TypeWalk as w
use Rattle.sp_types.specs.TypeWalk.{with_first_number, starts_of, statement_after, places_of}
use Rattle.sp_types.specs.CheckedTree.{checked_statement, checked_block, checked_blocks}
use Rattle.sp_tree.specs.Bare.{bare_block, bare_statement}
use Rattle.sp_tree.proofs.CallClosure.{from_call, stop_is}
use Rattle.sp_front.specs.MatchingTables.{TablesMatch}
use Rattle.sp_front.specs.TypedBlocks.{AreBlocksTyped}
use Rattle.sp_front.specs.ScopeFacts.{IsInForall}
use Rattle.sp_front.specs.PartsInTables.{AreScoped}
use Rattle.sp_code.specs.CodeOfTree.{IsCallable, StatementAt, IsSoundBlock, AnyInstr, AnyTable, AnyText}
use Rattle.sp_front.proofs.NoBreachInParts.{none_in_parts}
use Rattle.sp_front.proofs.Expressions.{ordinal_sort}
use Rattle.sp_front.proofs.Statements.{MatchesWithIndices, StatementHasCode, KeepsRulesHere, Grown, statement_fine}
use Rattle.sp_front.proofs.StandardCalls.{performs}
use Rattle.sp_front.proofs.Program.{named, tree, scoped}

-- in the scopes of a block there is no forall
no_index : (p : plain.Program) (k : ℕ) (o : Option ℕ) (x up : ℕ) → level (is_index x) (scopes_by p k o) ≡ Some up → ⊥
no_index p zero o x up e = cc e
no_index p (suc k) None x up e = cc e
no_index p (suc k) (Some b) x up e = go (level (is_index x) (scopes_by p k (parent_of (slice_get p.blocks b)))) e
    (λ u h. no_index p k (parent_of (slice_get p.blocks b)) x u h)
  where
    go : (l : Option ℕ) → one_more l ≡ Some up → ((u : ℕ) → l ≡ Some u → ⊥) → ⊥
    go None e next = cc e
    go (Some u) e next = next u refl

no_forall : (p : plain.Program) (f : ℕ) → IsInForall (scopes_of p f) → ⊥
no_forall p f = go (length p.blocks)
  where
    go : (k : ℕ) → IsInForall (scopes_by p k (Some f)) → ⊥
    go zero h = h
    go (suc k) h = h

module _ (p : plain.Program) (m : ℕ) (moves shares : Stmt → List ℕ) (callable : ℕ → Type 0) where
  ready_at : (f : ℕ) (env : Env) (k : ℕ) → TablesMatch p m env → MatchesWithIndices p m (with_first_number env k)
      (scopes_of p f)
  ready_at f env k h = (
    record {
      kinds = h.kinds;
      integer = h.integer;
      boolean = h.boolean;
      char = h.char;
      given = h.given;
      variables = h.variables;
      room = h.room;
      roles = h.roles;
      blocks = h.blocks;
      formals = h.formals;
      answers = h.answers;
      elements = h.elements;
      fields = h.fields;
    },
    λ x up v e at. absurd (no_index p (length p.blocks) (Some f) x up e),
  )

  -- all blocks from a number on; calm_use: what the rules of interference give where no function is being called
  pub blocks_fine : (numbers cells : List ℕ) (variables : List checked.Variable) (k : ℕ) (env : Env) (starts : List ℕ)
      (bs : List n.Block) → TablesMatch p m env → AreScoped p m k bs
      → w.blocks_sites [] both_lists refusal_list numbers cells variables k env starts bs ≡ []
      → AreBlocksTyped p env starts bs
      → ((i : ℕ) (c : plain.Block) → slice_get (map bare_block (checked_blocks env starts bs)) i ≡ Some c
      → KeepsRulesHere p m moves shares callable true (scopes_of p (k + i)) (In_stmt c.body))
      → (free : Bool) (i : ℕ) (c : plain.Block) → slice_get (map bare_block (checked_blocks env starts bs)) i ≡ Some c
      → KeepsRulesHere p m moves shares callable free (scopes_of p (k + i)) (In_stmt c.body)
      → StatementHasCode p m moves shares callable free (scopes_of p (k + i)) c.body
  blocks_fine numbers cells variables k env starts [] knows here calm typed calm_use free i c e kept = absurd (cc e)
  blocks_fine numbers cells variables k env [] (b ∷ bs) knows here calm typed calm_use free i c e kept = absurd (cc e)
  blocks_fine numbers cells variables k env (z ∷ starts) (b ∷ bs) knows (in_b, in_bs) calm (typed_b, typed_bs) calm_use
      free i c e kept =
      by i e kept (λ j e2 q2. blocks_fine numbers cells variables (suc k) next starts bs grown.0 in_bs
      (subst (λ y. w.blocks_sites [] both_lists refusal_list numbers cells variables y next starts bs ≡ [])
      (let y : k + 1 ≡ suc k = omega arith in y) two.1) typed_bs
      (λ j d e3. subst (λ y. KeepsRulesHere p m moves shares callable true (scopes_of p y) (In_stmt d.body))
      (let y : k + suc j ≡ suc k + j = omega arith in y) (calm_use (suc j) d e3)) free j c e2 q2)
    where
      next : Env
      next = statement_after (with_first_number env z) b.body

      two : (w.block_sites [] both_lists refusal_list numbers cells variables k (with_first_number env z) b ≡ [])
          × (w.blocks_sites [] both_lists refusal_list numbers cells variables (k + 1)
          (statement_after (with_first_number env z) b.body)
          starts bs ≡ [])
      two = none_in_parts (w.block_sites [] both_lists refusal_list numbers cells variables k
          (with_first_number env z) b)
          (w.blocks_sites [] both_lists refusal_list numbers cells variables (k + 1)
          (statement_after (with_first_number env z) b.body)
          starts bs) calm

      body_calm : w.statement_sites [] both_lists refusal_list (with_first_number env z) b.body ≡ []
      body_calm = (none_in_parts (w.answer_sites [] both_lists refusal_list (with_first_number env z) b.answer)
          (w.statement_sites [] both_lists refusal_list (with_first_number env z) b.body)
          (none_in_parts (refusal_list (frame_rule b.at (frame_cells numbers cells k variables)))
          (both_lists (w.answer_sites [] both_lists refusal_list (with_first_number env z) b.answer)
          (w.statement_sites [] both_lists refusal_list (with_first_number env z) b.body)) two.0).1).1

      grown : Grown p m (with_first_number env z) (statement_after (with_first_number env z) b.body)
      grown = (statement_fine p m moves shares callable (performs p m moves shares callable) true
          (with_first_number env z)
          (scopes_of p k) b.body (ready_at k env z knows) body_calm in_b typed_b
          (subst (λ y. KeepsRulesHere p m moves shares callable true (scopes_of p y)
          (In_stmt (bare_statement (checked_statement (with_first_number env z) b.body))))
          (let y : k + 0 ≡ k = omega arith in y)
          (calm_use 0 (bare_block (checked_block (with_first_number env z) b)) refl))).0

      first : (d : plain.Block) → bare_block (checked_block (with_first_number env z) b) ≡ d
          → KeepsRulesHere p m moves shares callable free (scopes_of p k) (In_stmt d.body)
          → StatementHasCode p m moves shares callable free (scopes_of p k) d.body
      first d e q = subst (λ (y : plain.Block). KeepsRulesHere p m moves shares callable free (scopes_of p k)
          (In_stmt y.body)
          → StatementHasCode p m moves shares callable free (scopes_of p k) y.body) e
          (λ q. (statement_fine p m moves shares callable (performs p m moves shares callable) free
          (with_first_number env z)
          (scopes_of p k) b.body (ready_at k env z knows) body_calm in_b typed_b q).1) q

      by : (i : ℕ) → slice_get (map bare_block (checked_blocks env (z ∷ starts) (b ∷ bs))) i ≡ Some c
          → KeepsRulesHere p m moves shares callable free (scopes_of p (k + i)) (In_stmt c.body)
          → ((j : ℕ) → slice_get
          (map bare_block (checked_blocks (statement_after (with_first_number env z) b.body) starts bs)) j
          ≡ Some c → KeepsRulesHere p m moves shares callable free (scopes_of p (suc k + j)) (In_stmt c.body)
          → StatementHasCode p m moves shares callable free (scopes_of p (suc k + j)) c.body)
          → StatementHasCode p m moves shares callable free (scopes_of p (k + i)) c.body
      by zero e q later = subst (λ y. StatementHasCode p m moves shares callable free (scopes_of p y) c.body)
          (let y : k ≡ k + 0 = omega arith in y)
          (first c (same_Some (bare_block (checked_block (with_first_number env z) b)) c e)
          (subst (λ y. KeepsRulesHere p m moves shares callable free (scopes_of p y) (In_stmt c.body))
          (let y : k + 0 ≡ k = omega arith in y) q))
      by (suc i) e q later = subst (λ y. StatementHasCode p m moves shares callable free (scopes_of p y) c.body)
          (let y : suc k + i ≡ k + suc i = omega arith in y)
          (later i e (subst (λ y. KeepsRulesHere p m moves shares callable free (scopes_of p y) (In_stmt c.body))
          (let y : k + suc i ≡ suc k + i = omega arith in y) q))

-- ---- the program

module _ (s : syntax.Program) (calm : broken_name_rules s ≡ []) (no_types : types_broken (named s calm) ≡ [])
    (free_of : IsFreeOfInterference (tree s calm))
    (functions : (f x : ℕ) (b : plain.Block) → slice_get (tree s calm).blocks f ≡ Some b → b.answer ≡ Some x
    → NeverStops (tree s calm) f)
    (knows : TablesMatch (tree s calm) (length (named s calm).constants) (env_of (named s calm)))
    (typed : AreBlocksTyped (tree s calm) (env_of (named s calm)) (starts_of (named s calm).blocks)
    (named s calm).blocks) (moves shares : Stmt → List ℕ) where
  abbrev p_ : plain.Program
  p_ = tree s calm

  abbrev n_ : n.Program
  n_ = named s calm

  abbrev m_ : ℕ
  m_ = length n_.constants

  none_in_blocks : w.blocks_sites [] both_lists refusal_list (numbers_of n_) (sizes (env_of n_).kinds) n_.variables 0
      (env_of n_)
      (starts_of n_.blocks) n_.blocks ≡ []
  none_in_blocks =
      let rest = w.blocks_sites [] both_lists refusal_list (numbers_of n_) (sizes (env_of n_).kinds) n_.variables 0
      (env_of n_)
      (starts_of n_.blocks) n_.blocks in
      let cells = w.cells_sites [] both_lists refusal_list (places_of n_.kinds) (sizes (env_of n_).kinds) in
      let kinds = w.kinds_sites [] both_lists refusal_list (constants_of n_) n_.kinds in
      (none_in_parts cells rest (none_in_parts kinds (both_lists cells rest)
      (none_in_parts (w.constants_sites [] both_lists refusal_list (constants_of n_) n_.constants)
      (both_lists kinds (both_lists cells rest)) no_types).1).1).1

  -- what may stand in a block, by the rules of interference
  kept_in : (free : Bool) (f : ℕ) (c : plain.Block) → slice_get p_.blocks f ≡ Some c
      → IsCallable (NeverStops p_) free f
      → KeepsRulesHere p_ m_ moves shares (NeverStops p_) free (scopes_of p_ f) (In_stmt c.body)
  kept_in free f c at is_callable = (
    by free is_callable,
    (λ i x h. no_forall p_ f i),
    λ x t h y k. (free_of.blocks f c at (ForallOf x t) h).1 y ([], k),
  )
    where
      by : (b : Bool) → IsCallable (NeverStops p_) b f → b ≡ false → (In_stmt c.body Stop → ⊥)
          × ((g : ℕ) (args : Actuals) → In_stmt c.body (CallOf g args) → NeverStops p_ g)
      by true h e = absurd (cc e)
      by false h e = (
        (λ i. h (c, at, [], i)),
        λ g args i leads.
            let (path, reach) = from_call p_ (In_stmt c.body) g args Stop i (stop_is p_ g leads) in
            h (c, at, path, reach),
      )

  pub block_fine : (f q : ℕ) (c : plain.Block) → slice_get p_.blocks f ≡ Some c
      → IsSoundBlock p_ moves shares (NeverStops p_) f q c
  block_fine f q c at = record {
    body = λ free h. stands free h;
    end = tt;
    callable_function = λ x ans. functions f x c at ans;
    answer = λ x ans. (let (v, v_at, role_is, block_is, ordinal) = knows.answers f c x at ans in
        (v, v_at, role_is, block_is, ordinal_sort (slice_get p_.kinds v.kind) ordinal));
  }
    where
      z : 0 + f ≡ f
      z = omega arith

      stands : (free : Bool) → IsCallable (NeverStops p_) free f
          → StatementAt p_ moves shares AnyInstr AnyTable AnyText (NeverStops p_) free (scopes_of p_ f) q c.body
      stands free h = subst (λ y. StatementHasCode p_ m_ moves shares (NeverStops p_) free (scopes_of p_ y) c.body) z
          (blocks_fine p_ m_ moves shares (NeverStops p_) (numbers_of n_) (sizes (env_of n_).kinds) n_.variables 0
          (env_of n_) (starts_of n_.blocks) n_.blocks knows (scoped s calm) none_in_blocks typed
          (λ i d e. subst (λ y. KeepsRulesHere p_ m_ moves shares (NeverStops p_) true (scopes_of p_ y)
          (In_stmt d.body))
          (let y : i ≡ 0 + i = omega arith in y) (kept_in true i d e tt))
          free f c at (subst (λ y. KeepsRulesHere p_ m_ moves shares (NeverStops p_) free (scopes_of p_ y)
          (In_stmt c.body)) (sym z)
          (kept_in free f c at h))) q
