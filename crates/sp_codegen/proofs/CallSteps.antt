-- A call of a procedure: what it finds, and its stretch of the code.
use Rattle.std.proofs.Common.{◌≡◌, ℕ, zero, suc, ◌+◌, ◌<◌, ◌==◌, List, [], ◌∷◌, Option, Some, None, Bool, true, false}
use Rattle.std.proofs.Common.{if◌then◌else◌, drop, length, refl, sym, ap, ◌∙◌, subst, arith, eqb-true}
use Rattle.std.specs.Prelude.{slice_get}
use Rattle.sp_base.proofs.Facts.{length_of_map}
use Rattle.sp_tree.specs.Plain.{Actuals, Program, Block}
use Rattle.sp_tree.specs.Uses.{In_stmt, In_call}
use Rattle.sp_meaning.specs.LocalWork.{OfBlock, Frame, LocalState, Item, Leave, WorkOutcome, Computed, EndsInFault}
use Rattle.sp_meaning.specs.LocalWork.{IllFormed, OutOfFuel, Work, bind, give}
use Rattle.sp_meaning.specs.LocalWork.{is_block, seek}
use Rattle.sp_meaning.specs.Rights.{frame_found, Linked, Sound, AreArgumentsOf}
use Rattle.sp_meaning.specs.Eval.{ArgumentValue}
use Rattle.sp_meaning.specs.Actions.{Action, Ticked, push, enter, references}
use Rattle.sp_meaning.specs.Run.{Store, run}
use Rattle.sp_meaning.proofs.Run.{then_run, run_bind}
use Rattle.sp_meaning.proofs.Static.{sought}
use Rattle.sp_meaning.proofs.CallRights.{fresh, fresh_linked, fresh_sound}
use Rattle.sp_code.specs.declared.code.Layout.{Layout}
use Rattle.sp_code.specs.declared.instr.Instr.TheVariants as i
use Rattle.sp_code.specs.Machine.{Entry, MemoryResult, Done, Failed, Config, StepResult, Goes, Fails, is_in_no_function}
use Rattle.sp_code.specs.Machine.{when, on_some, pause_step}
use Rattle.sp_code.specs.Machine.{then_go, fit_formals, next_step}
use Rattle.sp_code.specs.Machine as m
use Rattle.sp_code.specs.Scopes.{Scope, level, is_given, scopes_of, scopes_by}
use Rattle.sp_code.specs.Scopes as places
use Rattle.sp_code.specs.Places.{after_statement}
use Rattle.sp_code.specs.TreeCode.{end_instr}
use Rattle.sp_code.specs.CodeOfTree.{CodeAt, HasFork, HasWords, CallAt, Around, IsCallable, BlockAt, BlocksAt}
use Rattle.sp_codegen.specs.FramePairs.{FramePair, sources, pairs_from, HomeIs, Chain}
use Rattle.sp_codegen.specs.Executions.{Execution}
use Rattle.sp_codegen.specs.CodePositions.{StandsFor}
use Rattle.sp_codegen.specs.Relation.{CallMatches, GivensAre, frame_for}
use Rattle.sp_codegen.proofs.Runs.{stays, breaks, holds_when}
use Rattle.sp_codegen.proofs.FramePairs.{sources_length, up_from}
use Rattle.sp_codegen.proofs.Chains.{block_agrees, found, seek_all, find_in}
use Rattle.sp_codegen.proofs.Follows.{slides, push_follows, Made}
use Rattle.sp_codegen.proofs.StepForms.{K, After, Pl}
use Rattle.sp_codegen.proofs.ValueForms.{pushed, at_one}

abbrev rev_onto : List Entry → List Entry → List Entry
rev_onto [] ws = ws
rev_onto (x ∷ es) ws = x ∷ rev_onto es ws

rev_onto_nil : (es : List Entry) → rev_onto es [] ≡ es
rev_onto_nil [] = refl
rev_onto_nil (x ∷ es) = ap (λ z. x ∷ z) (rev_onto_nil es)

zero_plus : (a b c : ℕ) → a ≡ c → b ≡ c → a ≡ 0 + b
zero_plus a b c h k = omega (arith, h, k)

-- the scopes of a block are blocks
no_index_scope : (p : Program) (n : ℕ) (b : Option ℕ) (x up : ℕ) → level (places.is_index x) (scopes_by p n b) ≡ Some up
    → ⊥
no_index_scope p zero b x up e = absurd (cc e)
no_index_scope p (suc n) None x up e = absurd (cc e)
no_index_scope p (suc n) (Some b) x up e = go
    (level (places.is_index x) (scopes_by p n (places.parent_of (slice_get p.blocks b))))
    (λ k d. no_index_scope p n (places.parent_of (slice_get p.blocks b)) x k d) e
  where
    go : (l : Option ℕ) → ((k : ℕ) → l ≡ Some k → ⊥) → places.one_more l ≡ Some up → ⊥
    go None ih e = absurd (cc e)
    go (Some k) ih e = ih k refl

module _ {M : Type 0} (ex : Execution M) where
  open ex use {
    run_input as g,
    code,
    moves,
    shares,
    IsCallableInFunctions as callable,
    who as w,
    Writes as W,
    IsReadable as R,
    operations as ops,
    relation as rel,
    laws as law,
    reads_written as reads,
    free,
    own_written as mine_written,
    uses_formed,
    layouts_found as finds,
  }

  abbrev p : Program
  p = g.program

  abbrev pub BlockIs : ℕ → Block → Type 0
  BlockIs f b = BlockAt p moves shares code callable f b

  abbrev pub Blocks : Type 0
  Blocks = BlocksAt p moves shares code callable

  -- what the machine does at a call
  abbrev pub calls_to : Layout → ℕ → List Entry → MemoryResult M → StepResult M
  calls_to l r st d = then_go d (λ n1. m.enter_step ops code l r st n1)

  pop_pushed : (es : List Entry) (a k : ℕ) (stack : List Entry) (ws : List Entry) (go : List Entry → List Entry
      → StepResult M)
      → a ≡ k + length es → m.pop a (pushed es stack) ws go ≡ m.pop k stack (rev_onto es ws) go
  pop_pushed [] a k stack ws go e = let e1 : a ≡ k = omega (arith, e) in ap (λ j. m.pop j stack ws go) e1
  pop_pushed (x ∷ es) a k stack ws go e = pop_pushed es a (suc k) (x ∷ stack) ws go (omega (arith, e))

  givens_length : (fs : List FramePair) (xs : List ℕ) (gs : List ArgumentValue) (es : List Entry)
      → GivensAre rel p fs xs gs es
      → length es ≡ length xs
  givens_length fs [] [] [] h = refl
  givens_length fs [] [] (e ∷ es) h = absurd h
  givens_length fs [] (g ∷ gs) es h = absurd h
  givens_length fs (x ∷ xs) [] es h = absurd h
  givens_length fs (x ∷ xs) (g ∷ gs) [] h = absurd h
  givens_length fs (x ∷ xs) (g ∷ gs) (e ∷ es) h = ap suc (givens_length fs xs gs es h.1)

  -- a call, with what it finds
  pub record CallFinds (fs : List FramePair) (f : ℕ) (b : Block) (q : ℕ) (stack : List Entry) (gs : List ArgumentValue)
      (es : List Entry) (o : LocalState) (s : Store) (n : M) (l : Layout) : Type 0 where
    pub did : MemoryResult M
    pub around : List FramePair
    pub entered : CallMatches rel w fs s f b around gs (run (enter g f gs) w o s) did
    pub goes : next_step ops code (m.At q (pushed es stack) n) ≡ calls_to l (q + 1) stack did
    pub parent : (c : ℕ) × (b.parent ≡ Some c)
    pub placed : (j : FramePair) → j.source ≡ frame_for rel w f b fs around gs
        → Pl ex (scopes_of p f) (j ∷ fs) (In_stmt b.body)

  chain_of : (fs around : List FramePair) (f : ℕ) (up_sc : List Scope) (j : FramePair) (b : Block)
      (gs : List ArgumentValue)
      → j.source ≡ frame_for rel w f b fs around gs → pairs_from (length around) fs ≡ around
      → scopes_of p f ≡ places.OfBlock f ∷ up_sc → Chain up_sc around → Chain (scopes_of p f) (j ∷ fs)
  chain_of fs around f up_sc j b gs e fr es ch =
      subst (λ y. Chain y (j ∷ fs)) (sym es) (
        j,
        fs,
        refl,
        subst (λ y. HomeIs (places.OfBlock f) y) (sym (ap (λ (z : Frame). z.home) e)) refl,
        subst (λ y. Chain up_sc y) (sym (ap (λ (z : Frame). pairs_from z.link fs) e ∙ fr)) ch,
      )

  pub call_finds : {fs : List FramePair} {o : LocalState} {s : Store} {n : M} (f : ℕ) (args : Actuals) (b : Block)
      (sc : List Scope) (q : ℕ) (stack : List Entry) (gs : List ArgumentValue) (es : List Entry) → rel.Agrees fs o s n
      → Pl ex sc fs (In_call f args)
      → CallAt p moves shares (CodeAt code) (HasFork code) (HasWords code) callable sc q f b
      → (z : BlockIs f b) → GivensAre rel p fs b.formals gs es → AreArgumentsOf p (sources fs) args gs
      → CallFinds fs f b q stack gs es o s n z.layout
  call_finds {fs} {o} {s} {n} f args b sc q stack gs es t pl (level, known, within, calls) z gv ga =
      by_parent b.parent refl within
    where
      by_parent : (y : Option ℕ) → b.parent ≡ y
          → Around p moves shares (CodeAt code) (HasFork code) (HasWords code) callable sc f y level
          → CallFinds fs f b q stack gs es o s n z.layout
      by_parent None e x = absurd x
      by_parent (Some c) e x =
          let r = found (is_block c) (places.is_block c) (block_agrees c) sc fs level pl.chain x.0 in
          let seek_is : seek (is_block c) (length (sources fs)) (sources fs) ≡ sources (r.frame ∷ r.rest) =
          seek_all (is_block c) fs ∙ r.sought in
          let op = law.open_frame t f b z.layout known z.layout_is c level r.frame r.rest e r.frame_at seek_is gs es gv
          in
          let formals_are : length z.layout.formals ≡ length b.formals = ap
          (λ (y : Layout). length y.formals) z.layout_is
          ∙ length_of_map _ b.formals in
          let fresh_is : fresh p w.name W R 0 (λ m x i. mine_written m x) reads free (sources fs) f b args gs c
          r.frame.source ≡ frame_for rel w f b fs (r.frame ∷ r.rest) gs =
          (let a = sources_length fs in let k =
          sym (sought (is_block c) (length (sources fs)) (sources fs) r.frame.source (sources r.rest) pl.linked
          seek_is).1 ∙ sources_length (r.frame ∷ r.rest) in
          λ i. record {
            owner = w.name;
            number = a i;
            home = OfBlock f;
            link = k i;
            references = references b.formals gs;
          }) in
          let found_is : frame_found (is_block c) (length (sources fs)) (sources fs) ≡ Some r.frame.source =
          find_in (is_block c) fs r.frame r.rest r.sought in
          let before : c < f = free.parents f b c known e in
          record {
            did = ops.open_frame z.layout level es n;
            around = r.frame ∷ r.rest;
            entered = op.2;
            goes = at_one ex q (pushed es stack) n calls
                ∙ ap (λ y. on_some y (λ l. m.call_step ops code l level (q + 1) (pushed es stack) n))
                (finds f z.layout z.layout_at)
                ∙ pop_pushed es (length z.layout.formals) 0 stack []
                (λ es st. when (fit_formals z.layout.formals es)
                (when (ops.can_push level n)
                (then_go (ops.open_frame z.layout level es n) (λ n1. m.enter_step ops code z.layout (q + 1) st n1))))
                (zero_plus (length z.layout.formals) (length es) (length b.formals) formals_are
                (givens_length fs b.formals gs es gv))
                ∙ ap (λ y. when (fit_formals z.layout.formals y)
                (when (ops.can_push level n) (calls_to z.layout (q + 1) stack (ops.open_frame z.layout level y n))))
                (rev_onto_nil es)
                ∙ holds_when (fit_formals z.layout.formals es) _ op.0 ∙ holds_when (ops.can_push level n) _ op.1;
            parent = (c, e);
            placed = λ j ej. record {
              chain = chain_of fs (r.frame ∷ r.rest) f (drop level sc) j b gs ej
                  (up_from level fs r.frame r.rest r.frame_at) x.1
                  r.chain;
              linked = subst (λ y. Linked (y ∷ sources fs)) (fresh_is ∙ sym ej)
                  (fresh_linked p w.name W R 0 (λ m x i. mine_written m x) reads free (sources fs) f b args gs c
                  r.frame.source pl.linked known ga before found_is);
              sound = subst (λ y. Sound p W R (y ∷ sources fs) (In_stmt b.body)) (fresh_is ∙ sym ej)
                  (fresh_sound p w.name W R 0 (λ m x i. mine_written m x) reads free (sources fs) f b args gs c
                  r.frame.source pl.linked known ga before found_is (omega arith) pl.sound);
              formed = λ u hx. uses_formed f b known u hx;
              indexes = λ x up hx lv. absurd (no_index_scope p (length p.blocks) (Some f) x up lv);
            };
          }

  -- the end of a called block is a return
  pub return_at : (f c : ℕ) (b : Block) → slice_get p.blocks f ≡ Some b → b.parent ≡ Some c → end_instr f ≡ i.Return
  return_at f c b eb ep = go (f == 0) refl
    where
      go : (t : Bool) → f == 0 ≡ t → (if t then i.End else i.Return) ≡ i.Return
      go true t = let z = free.parents f b c eb ep in let y = eqb-true f 0 t in absurd (omega (arith, z, y))
      go false t = refl

  -- a procedure's call
  pub call_makes : Blocks → (end : ℕ) (base : List Entry) (below : List FramePair) (f : ℕ) (args : Actuals) (b : Block)
      (sc : List Scope) (q : ℕ) (stack : List Entry) (gs : List ArgumentValue) (es : List Entry) (todo : List Item)
      (fs : List FramePair) (o : LocalState) (s : Store) (n : M) → rel.Agrees fs o s n → Pl ex sc fs (In_call f args)
      → CallAt p moves shares (CodeAt code) (HasFork code) (HasWords code) callable sc q f b → b.answer ≡ None
      → IsCallable callable (is_in_no_function stack) f → GivensAre rel p fs b.formals gs es
      → AreArgumentsOf p (sources fs) args gs
      → After ex end base below todo fs (q + 1) stack
      → K ex (m.At q (pushed es stack) n) o s (After ex end base below)
      (bind (enter g f gs) (λ y. give (Ticked (push y.body (Leave ∷ todo)))))
  call_makes blocks end base below f args b sc q stack gs es todo fs o s n t pl h ha hu gv ga fo =
      record {
        proof = subst (Made ex c (After ex end base below)) (sym (run_bind (enter g f gs) next w o s))
            (go (run (enter g f gs) w o s) r.did r.entered r.goes);
      }
    where
      z : BlockIs f b
      z = blocks f b h.1

      l : Layout
      l = z.layout

      r : CallFinds fs f b q stack gs es o s n l
      r = call_finds f args b sc q stack gs es t pl h z gv ga

      c : Config M
      c = m.At q (pushed es stack) n

      next : Block → Work Action
      next y = give (Ticked (push y.body (Leave ∷ todo)))

      no_answer : l.answer ≡ false
      no_answer = ap (λ (y : Layout). y.answer) z.layout_is ∙ ap is_given ha

      go : (x : WorkOutcome Block × Store) (d : MemoryResult M) → CallMatches rel w fs s f b r.around gs x d
          → next_step ops code c ≡ calls_to l (q + 1) stack d → Made ex c (After ex end base below) (then_run next w x)
      go (Computed b1 o1, s1) (Done n1) (block_is, (fr, frame_is, stands, mine)) e = (
        c,
        stays ops rel w code c,
        record {
          pc = l.entry;
          stack = m.Link (q + 1) ∷ stack;
          memory = n1;
          frames = fr ∷ fs;
          ticks = e ∙ ap (λ y. if y then Goes (m.At l.entry (m.Reply (q + 1) ∷ stack) n1) else
              pause_step ops code l.entry (m.Link (q + 1) ∷ stack) n1) no_answer;
          stand = stands;
          follows = subst (λ (y : Block). After ex end base below (push y.body (Leave ∷ todo)) (fr ∷ fs) l.entry
              (m.Link (q + 1) ∷ stack)) (sym block_is)
              (push_follows ex b.body end base below (scopes_of p f) l.entry (m.Link (q + 1) ∷ stack) (fr ∷ fs)
              (Leave ∷ todo) (r.placed fr frame_is) (z.stands.body (is_in_no_function stack) hu) (
                after_statement p l.entry b.body,
                slides ex _ _,
                record {
                  back = q + 1;
                  under = stack;
                  frame = fr;
                  outer = fs;
                  stack_is = refl;
                  returns = z.stands.end ∙ ap Some (return_at f r.parent.0 b h.1 r.parent.1);
                  frames_are = refl;
                  rest = fo;
                  mine = mine;
                },
              ));
        },
      )
      go (Computed b1 o1, s1) (Failed x) al e = absurd al
      go (EndsInFault x, s1) (Done n1) al e = absurd al
      go (EndsInFault x, s1) (Failed y) (same_fault, same_store) e =
          breaks ops rel w code c x s1 (subst (StandsFor rel c) (sym same_store) (fs, o, t))
          (e ∙ ap Fails (sym same_fault))
      go (IllFormed, s1) d al e = absurd al
      go (OutOfFuel, s1) d al e = absurd al
