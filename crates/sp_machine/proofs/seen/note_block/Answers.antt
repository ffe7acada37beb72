use Rattle.std.proofs.Common.{◌≡◌, ◌∙◌, sym, ap, subst, ℕ, List, get_or, length, ◌+◌, ◌<◌, drop}
use Rattle.std.specs.Option.{option_or}
use Rattle.std.proofs.lemmas.List.{get_or_default}
use Rattle.sp_code.specs.System.{place_of, spot_at, spot_by}
use Rattle.sp_machine.specs.Frames.{frame_of}
use Rattle.sp_machine.specs.Seen.{under}
use Rattle.sp_machine.proofs.Noting.{block_more}
use Rattle.sp_machine.proofs.seen.note_block.Goals as goal

pub loop-variable-preserved : goal.loop-variable-preserved
loop-variable-preserved c x =
    let l = c.args.layout.now in
    let f = frame_of c.args.frame.now in
    let k = c.loop-variable.variable-index in
    let y : ℕ = get_or c.items-variable-items.result.now k 0 in
    let inside : k < length l.variables =
    subst (λ (vs : List ℕ). k < length vs) c.items-variable-items.ensures c.loop-variable-test.true in
    let item : y ≡ get_or l.variables k y = ap (λ (vs : List ℕ). get_or vs k 0) c.items-variable-items.ensures
    ∙ get_or_default l.variables k 0 y inside in
    let spot = c.in-Some.ensures
    ∙ ap (spot_by f c.loop-variable.place) (c.copied-formal.ensures ∙ c.get.ensures) in
    ap (λ n. option_or (under c.note.new.noted x)
    (spot_at f l (place_of x n (drop (k + 1) l.variables)))) c.in-Some-checked_add.ensures.1
    ∙ sym (block_more l f l.variables c.loop-variable.seen c.note.new.noted c.loop-variable.place k y c.in-Some.spot
    inside item spot c.in-Ok-note.ensures x) ∙ c.loop-variable.invariant x
