-- The opening states of the meaning and of the machine are linked (`opening_linked`): the first process stands, or its
-- frame is too large and F12 is its first step.
use Rattle.std.proofs.Common.{◌≡◌, ◌⊎◌, inl, inr, ℕ, zero, suc, ◌<◌, ◌≤◌, ◌==◌, List, [], ◌∷◌, Some, Bool, true, false}
use Rattle.std.proofs.Common.{if◌then◌else◌, eqb-true, refl, sym, ap, ◌∙◌, subst, arith}
use Rattle.std.specs.Prelude.{◌≢◌, nat_lt, nat_le, slice_get}
use Rattle.sp_base.specs.declared.fault.Fault.TheVariants as fault
use Rattle.sp_tree.specs.Plain.{Block}
use Rattle.sp_journal.specs.Births.{first_births}
use Rattle.sp_cell.specs.Map.{Plain, output_of}
use Rattle.sp_meaning.specs.Model.{Name, Absent}
use Rattle.sp_meaning.specs.LocalWork.{RunInput, Identity, Break}
use Rattle.sp_meaning.specs.Actions.{push, size_of_frame}
use Rattle.sp_meaning.specs.Rights.{Fit}
use Rattle.sp_meaning.specs.SuperPascal.{root, main_items, first_store}
use Rattle.sp_meaning.specs.Runs.{start}
use Rattle.sp_meaning.specs.Along.{before_entries}
use Rattle.sp_meaning.proofs.RightsInvariant.{Inv, ConditionInRights}
use Rattle.sp_meaning.proofs.StepLaws.{start_well, start_sound}
use Rattle.sp_meaning.proofs.Rights.{OwnOrGiven}
use Rattle.sp_meaning.proofs.RuleKeepers.{First, bottom, body_sound, first_fair}
use Rattle.sp_meaning.proofs.SoundParts.{push_good}
use Rattle.sp_code.specs.Machine.{At}
use Rattle.sp_code.specs.Memory.{Memory, first_process, first_memory, entry_of}
use Rattle.sp_code.specs.Machine.{layout_of}
use Rattle.sp_code.specs.Turns.{frames_fit}
use Rattle.sp_code.specs.Places.{after_statement}
use Rattle.sp_code.specs.PlainStore.{plain}
use Rattle.sp_code.specs.Scopes.{scopes_of}
use Rattle.sp_code.specs.CodeOfTree.{BlockAt}
use Rattle.sp_code.specs.System.{System, opening_system}
use Rattle.sp_code.specs.System as sys
use Rattle.sp_codegen.specs.FramePairs.{FramePair}
use Rattle.sp_codegen.proofs.Follows.{slides, push_follows}
use Rattle.sp_codegen.proofs.Root.{NoIndexes, j0, root_stands, root_placed}
use Rattle.sp_link.proofs.Journal.{Now}
use Rattle.sp_link.proofs.Relation.{RunContext, BirthRights, RightsOfAll, W_of, R_of, Called, Named, Fresh}
use Rattle.sp_link.proofs.Relation.{ProcessMatches, TooLarge}
use Rattle.sp_link.proofs.Relation.{Performs_all, Linked, Began, at_open, run_is, ops, execution}

-- with so many cells as the frame of the program takes
abbrev roomy : RunInput → RunInput
roomy g = record g { limits = record (g.limits) { cells = size_of_frame g 0 } }

module _ (G : RunContext) (b : Block) (eb : slice_get G.g.program.blocks 0 ≡ Some b)
    (begun : Began G first_births) where
  pub called : Called G [] 0
  called = (let a = begun.processes in omega (arith, a), sym (begun.names 0 (omega arith)))

  pub block : BlockAt G.g.program G.moves G.shares G.code G.callable 0 b
  block = G.blocks 0 b eb

  abbrev pub js : List FramePair
  js = j0 G.g G.code G.formed G.laid b eb G.pause (Named G) (Called G) called ∷ []

  -- what its birth would give each process: nothing but to the first
  abbrev pub lives : RightsOfAll G
  lives q = record {
    W = λ l. First q l;
    R = λ l. First q l;
    J = NoIndexes;
    low = 1;
    born = 0;
    moved = [];
    below = js;
    end = after_statement G.g.program block.layout.entry b.body;
  }

  abbrev kids : ℕ → ℕ → BirthRights
  kids k n = lives ((k, n) ∷ [])

  fresh : Fresh G (lives []) kids []
  fresh = record { based = omega arith; reads = λ l h. h; low_small = omega arith; ends = block.stands.end }

  abbrev n0 : Memory Plain
  n0 = first_memory plain (run_is G) (layout_of G.code.layouts 0)

  first_is : first_process plain (run_is G) ≡ At block.layout.entry [] n0
  first_is = ap (λ y. At (entry_of plain (run_is G) y) [] n0) (G.finds 0 block.layout block.layout_at)

  -- what it has to do
  todo_by : (large : Bool) → nat_lt G.g.limits.cells (size_of_frame G.g 0) ≡ large
      → (root G.g).todo ≡ (if large then Break fault.F12 ∷ [] else push b.body [])
  todo_by large e = go G.g.program.blocks eb
    where
      go : (bs : List Block) → slice_get bs 0 ≡ Some b
          → main_items G.g bs ≡ (if large then Break fault.F12 ∷ [] else push b.body [])
      go [] h = absurd (cc h)
      go (c ∷ bs) h = let same : c ≡ b = cc h in
          ap (λ y. if y then Break fault.F12 ∷ [] else push c.body []) e
          ∙ ap (λ (y : Block). if large then Break fault.F12 ∷ [] else push y.body []) same

  abbrev who : Identity
  who = record { name = []; forks = 0; opens = 0 }

  stands : nat_lt G.g.limits.cells (size_of_frame G.g 0) ≡ false
      → ProcessMatches G (lives []) kids [] 0 (root G.g) (first_store G.g) (first_process plain (run_is G))
  stands e = record {
    fresh = fresh;
    named = refl;
    js = js;
    pc = block.layout.entry;
    stack = [];
    memory = n0;
    configuration_is = first_is;
    stand = root_stands G.g G.code G.formed G.laid b eb G.pause (Named G) (Called G) called fits;
    follows = subst (λ y. Rattle.sp_codegen.specs.CodePositions.CodeFollows
        (execution G (lives []) kids [] fresh who refl 0)
        (lives []).end [] js block.layout.entry [] js y) (sym (todo_by false e))
        (push_follows (execution G (lives []) kids [] fresh who refl 0) b.body (lives []).end [] js
        (scopes_of G.g.program 0) block.layout.entry [] js []
        (root_placed G.g G.code G.formed G.laid b eb G.pause (Named G) (Called G) called G.free)
        (block.stands.body true tt) (
          slides (execution G (lives []) kids [] fresh who refl 0) (lives []).end [],
          refl,
          refl,
        ));
  }
    where
      fits : size_of_frame G.g 0 ≤ G.g.limits.cells
      fits = Prim.grind (arith, e)

  -- its memory, whatever the limit of cells is
  abbrev roomy_is : Rattle.sp_codegen.specs.MemoryRelation.Agrees (roomy G.g) G.code who (Named G) (Called G)
      (λ l. OwnOrGiven First [] l) (λ l. OwnOrGiven First [] l) NoIndexes 1 1 0 0 G.pause [] js (root (roomy G.g)).own
      (first_store G.g) n0
  roomy_is = root_stands (roomy G.g) G.code G.formed G.laid b eb G.pause (Named G) (Called G) called (omega arith)

  too_large : nat_lt G.g.limits.cells (size_of_frame G.g 0) ≡ true
      → TooLarge G (lives []) kids [] (first_store G.g) (root G.g) (first_process plain (run_is G))
  too_large e = record {
    is_first = refl;
    faults = todo_by true e;
    is_root = refl;
    configuration_is = refl;
    no_room = no_room;
    output = λ may. (let y = roomy_is.output may in (y.0, y.1, ap output_of y.2));
  }
    where
      small : nat_le n0.cells G.g.limits.cells ≡ false
      small = let a = roomy_is.frames.cells in by (nat_le n0.cells G.g.limits.cells) refl a
        where
          by : (x : Bool) → nat_le n0.cells G.g.limits.cells ≡ x → size_of_frame G.g 0 ≡ n0.cells → x ≡ false
          by false h a = refl
          by true h a =
              let le : n0.cells ≤ G.g.limits.cells = Prim.grind (arith, h) in
              let lt : G.g.limits.cells < size_of_frame G.g 0 = Prim.grind (arith, e) in
              absurd (omega (arith, le, lt, a))

      no_room : frames_fit (ops G) G.code (first_process plain (run_is G)) ≡ false
      no_room = small

  does_first : Performs_all G lives [] before_entries (start G.g) 0 (sys.Working (first_process plain (run_is G)))
  does_first = (root G.g, refl, by (nat_lt G.g.limits.cells (size_of_frame G.g 0)) refl, refl, refl)
    where
      by : (x : Bool) → nat_lt G.g.limits.cells (size_of_frame G.g 0) ≡ x
          → ProcessMatches G (lives []) kids [] 0 (root G.g) (first_store G.g) (first_process plain (run_is G))
          ⊎ TooLarge G (lives []) kids [] (first_store G.g) (root G.g) (first_process plain (run_is G))
      by false e = inl (stands e)
      by true e = inr (too_large e)

  -- rights
  main_fit : Fit G.g.program (λ l. OwnOrGiven First [] l) (λ l. OwnOrGiven First [] l) (bottom G.g G.free ∷ [])
      (bottom G.g G.free ∷ []) (root G.g).todo
  main_fit = subst (λ y. Fit G.g.program (λ l. OwnOrGiven First [] l) (λ l. OwnOrGiven First [] l)
      (bottom G.g G.free ∷ [])
      (bottom G.g G.free ∷ []) y) (sym (todo_by (nat_lt G.g.limits.cells (size_of_frame G.g 0)) refl))
      (go (nat_lt G.g.limits.cells (size_of_frame G.g 0)))
    where
      go : (x : Bool) → Fit G.g.program (λ l. OwnOrGiven First [] l) (λ l. OwnOrGiven First [] l)
          (bottom G.g G.free ∷ [])
          (bottom G.g G.free ∷ []) (if x then Break fault.F12 ∷ [] else push b.body [])
      go true = record { linked = (refl, λ c f h. absurd (cc h), tt, tt); ready = tt; ends = refl }
      go false = push_good G.g.program (λ l. OwnOrGiven First [] l) (λ l. OwnOrGiven First [] l)
          (bottom G.g G.free ∷ [])
          (bottom G.g G.free ∷ []) b.body [] (body_sound G.g G.free b eb)
          (record { linked = (refl, λ c f h. absurd (cc h), tt, tt); ready = tt; ends = refl })

  rights : Inv G.g.program (W_of G lives) (R_of G lives) (start G.g).condition (start G.g).forks
  rights = record { holds = holds; unborn = λ q k i h. refl; fair = first_fair; unknown = λ q k i l h g. g }
    where
      holds : (q : Name) → ConditionInRights G.g.program (W_of G lives) (R_of G lives)
          (λ r. 0) q ((start G.g).condition q)
      holds [] = record { named = refl; forked = refl; last = bottom G.g G.free ∷ []; fit = main_fit }
      holds (a ∷ q) = refl

  abbrev u0 : System Plain
  u0 = opening_system plain (run_is G)

  pub opening_linked : G.opened ≡ 0 → Linked G lives before_entries (start G.g) u0
  opening_linked none = record {
    rights = rights;
    known = record { sound = start_sound G.g; well = start_well G.g };
    reads_output = tt;
    began = begun;
    open_is = none;
    forks = λ i lt. refl;
    processes = refl;
    channels = refl;
    entries = refl;
    fresh_since = λ q e. refl;
    pending = λ j lt. absurd (omega (arith, lt));
    none_pending = λ j le. refl;
    faulted = refl;
    no_fault = λ e. refl;
    unlaid = λ e q. refl;
    does = λ i lt. does_by i lt;
    unborn = λ i le. absent i le;
    unmade = λ i le. (refl, refl);
    numbered = λ q h. (0, omega arith, sym (first_name q h));
  }
    where
      does_by : (i : ℕ) → i < 1 → Performs_all G lives (G.births.name i) before_entries (start G.g) (u0.births.opens i)
          (u0.condition i)
      does_by zero lt = subst (λ y. Performs_all G lives y before_entries (start G.g) 0
          (sys.Working (first_process plain (run_is G)))) (begun.names 0 (omega arith)) does_first
      does_by (suc i) lt = absurd (omega (arith, lt))

      absent : (i : ℕ) → 1 ≤ i → u0.condition i ≡ sys.Absent
      absent zero le = absurd (omega (arith, le))
      absent (suc i) le = go (suc i == 0) refl
        where
          go : (x : Bool) → suc i == 0 ≡ x → (if x then sys.Working (first_process plain (run_is G)) else sys.Absent)
              ≡ sys.Absent
          go true e = let same : suc i ≡ 0 = eqb-true (suc i) 0 e in absurd (omega (arith, same))
          go false e = refl

      first_name : (q : Name) → (start G.g).condition q ≢ Absent → q ≡ G.births.name 0
      first_name [] h = begun.names 0 (omega arith)
      first_name (a ∷ q) h = absurd (h refl)

-- with the channels that are open at first: none
pub opening_now : (G : RunContext) (b : Block) (eb : slice_get G.g.program.blocks 0 ≡ Some b)
    (begun : Began G first_births)
    → Now G (lives (at_open G 0) b eb begun) before_entries (start G.g) (opening_system plain (run_is G))
opening_now G b eb begun = opening_linked (at_open G 0) b eb begun refl
