-- A small store that computes, to run worked code by the definitions.
use Rattle.std.specs.Prelude.{ℕ, suc, ◌-◌, ◌==◌, ℤ, pos, List, [], ◌∷◌, ◌++◌, Option, Some, None, Bool, false, ◌&&◌}
use Rattle.std.specs.Prelude.{if◌then◌else◌, length, take, replicate, max, codes}
use Rattle.sp_base.specs.declared.fault.Fault.{Fault}
use Rattle.sp_base.specs.declared.limits.Limits.{Limits}
use Rattle.sp_cell.specs.declared.cell.Cell.TheVariants as cell
use Rattle.sp_cell.specs.declared.spot.Spot.{Spot}
use Rattle.sp_cell.specs.Map.{Content, Own, Shared, Output, Away, output_spot}
use Rattle.sp_cell.specs.Frame.{least_above, last_own_frame, frames}
use Rattle.sp_cell.specs.Fork.{index_frame, moved_of, shared_of}
use Rattle.sp_code.specs.declared.instr.Instr.{Instr}
use Rattle.sp_code.specs.declared.code.Layout.{Layout}
use Rattle.sp_code.specs.declared.code.Parts.{Parts}
use Rattle.sp_code.specs.Machine.{Stop, Config, At}
use Rattle.sp_code.specs.Turns.{Turn, Stopped, Faulted, TurnProgress, Ended, Lacks, GoesOn, turn_within}
use Rattle.sp_code.specs.Memory.{CodeRun, Stores, Memory, memory, first_process, bytes_in, is_there}
use Rattle.sp_code.specs.PlainStore.{piece_of}

pub record Small : Type 0 where
  pub content_at : Spot → Option Content
  pub known : List ℕ
  pub own : List ℕ
  pub moved : List Spot

abbrev pub same_spot : Spot → Spot → Bool
same_spot a b = (a.frame == b.frame) && (a.variable == b.variable)

abbrev pub with_content : Spot → Option Content → (Spot → Option Content) → Spot → Option Content
with_content s c at t = if same_spot s t then c else at t

abbrev pub pieces_from : ℕ → ℕ → List ℕ → (Spot → Option Content) → Spot → Option Content
pieces_from n v [] at = at
pieces_from n v (k ∷ ks) at = pieces_from n (suc v) ks
    (with_content (record { frame = n; variable = v }) (Some (Own (replicate k cell.Undefined))) at)

abbrev pub output_by : Option Content → Option (List ℕ)
output_by None = None
output_by (Some (Own cs)) = None
output_by (Some (Shared cs)) = None
output_by (Some (Output bs)) = Some bs
output_by (Some Away) = None

abbrev pub shared_by : Option Content → Option Content
shared_by None = None
shared_by (Some (Own cs)) = Some (Shared cs)
shared_by (Some (Shared cs)) = Some (Shared cs)
shared_by (Some (Output bs)) = None
shared_by (Some Away) = None

abbrev pub each : (Spot → Option Content) → List Spot → (Spot → Option Content) → Spot → Option Content
each new [] at = at
each new (s ∷ ss) at = each new ss (with_content s (new s) at)

abbrev pub with_index : ℕ → Option (ℕ × ℤ) → (Spot → Option Content) → Spot → Option Content
with_index n None at = at
with_index n (Some x) at = with_content (record { frame = n; variable = x.0 }) (Some (Own (cell.Ordinal x.1 ∷ []))) at

abbrev pub without : ℕ → List ℕ → List ℕ
without n [] = []
without n (k ∷ ks) = if k == n then without n ks else k ∷ without n ks

abbrev pub small : Stores Small
small = record {
  piece = λ s p. piece_of (s.content_at p);
  owned = λ s p cs. record s { content_at = with_content p (Some (Own cs)) s.content_at };
  output = λ s. output_by (s.content_at output_spot);
  appended = λ s bs. record s {
    content_at = with_content output_spot
        (Some (Output (bytes_in (output_by (s.content_at output_spot)) ++ bs))) s.content_at;
  };
  next_frame = λ s. max (least_above s.known) (least_above s.own);
  pushed = λ s sizes. let n = max (least_above s.known) (least_above s.own) in
      record s { content_at = pieces_from n 0 sizes s.content_at; known = n ∷ s.known; own = s.own ++ n ∷ [] };
  may_pop = λ s n. is_there s.own && (last_own_frame s.own == n);
  popped = λ s. let n = last_own_frame s.own in record s {
    content_at = λ p. if p.frame == n then None else
        s.content_at p;
    known = without n s.known;
    own = take (length s.own - 1) s.own;
  };
  root = λ sizes. record {
    content_at = pieces_from 0 2 sizes
        (with_content (record { frame = 0; variable = 0 }) (Some (Own (cell.Ordinal (pos 0) ∷ [])))
        (with_content output_spot (Some (Output [])) (λ p. None)));
    known = 0 ∷ [];
    own = [];
    moved = [];
  };
  child = λ s h. record {
    content_at = each s.content_at h.moved
        (with_index (index_frame h) h.index (each (λ p. shared_by (s.content_at p)) h.shared (λ p. None)));
    known = index_frame h ∷ frames h.moved ++ frames h.shared;
    own = [];
    moved = h.moved;
  };
  handed = λ s hs. record s {
    content_at = each (λ p. shared_by (s.content_at p)) (shared_of hs)
        (each (λ p. Some Away) (moved_of hs) s.content_at);
  };
  joined = λ s c. record s { content_at = each c.content_at c.moved s.content_at };
}

-- limits that nothing here meets
abbrev pub wide : Limits
wide = record { ticks = 1000; depth = 100; cells = 1000; processes = 100; channels = 100; entries = 100; output = 100 }

-- code of instructions and layouts
abbrev pub code_of : List Instr → List Layout → Parts
code_of is ls = record { instrs = is; layouts = ls; forks = []; texts = [] }

-- the frame of the program, with a variable for each size
abbrev pub main : List ℕ → Layout
main sizes = record { block = 0; entry = 0; parent = None; answer = false; sizes = sizes; variables = []; formals = [] }

-- the first turn of this code, with no more than 200 instructions
abbrev pub first_turn : CodeRun → TurnProgress (Memory Small)
first_turn g = turn_within (memory small g) g.code 200 (first_process small g)

-- where it ended, and the output there
abbrev pub Seen : Type 0
Seen = Option Stop × Option Fault × List ℕ

abbrev pub written : Config (Memory Small) → List ℕ
written (At pc st n) = bytes_in (output_by (n.store.content_at output_spot))

abbrev pub seen_turn : Turn (Memory Small) → Seen
seen_turn (Stopped s c) = (Some s, None, written c)
seen_turn (Faulted f c) = (None, Some f, written c)

abbrev pub seen : TurnProgress (Memory Small) → Seen
seen (Ended t) = seen_turn t
seen (Lacks c) = (None, None, codes "lacks")
seen (GoesOn c) = (None, None, codes "goes on")
