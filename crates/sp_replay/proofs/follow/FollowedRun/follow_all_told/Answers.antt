use Rattle.std.proofs.Common.{◌∙◌, List, refl, sym, subst}
use Rattle.sp_code.specs.Memory.{CodeRun}
use Rattle.sp_code.specs.PlainStore.{plain}
use Rattle.sp_code.specs.System.{IsSystem}
use Rattle.sp_lines.specs.declared.entry_place.Told.{Told}
use Rattle.sp_kernel.specs.Kernels.{code_run_of, system_of}
use Rattle.sp_lines.specs.EntryPlaces.{DescribesEntries}
use Rattle.sp_replay.specs.Replays.{IsUnfitAt}
use Rattle.sp_replay.proofs.HistorySteps.{is_system, none_of}
use Rattle.sp_replay.proofs.Entries.{unfit, at_or}
use Rattle.sp_replay.proofs.TellingLaws.{told_more, told_none, of_some, of_none, entries_more}
use Rattle.sp_replay.proofs.follow.FollowedRun.follow_all_told.Goals as goal

pub loop-index-init : goal.loop-index-init
loop-index-init c = record {
  stands = c.requires.stands;
  code_run = refl;
  entries = c.requires.start;
  told = told_none c.args.self.now.kernel c.requires.stands.follows.come c.requires.start c.args.out.now
      c.requires.empty;
}

pub returns-in_default-told-clause-err : goal.returns-in_default-told-clause-err
returns-in_default-told-clause-err c =
    let x = c.loop-index.self.kernel in
    let i = c.loop-index.invariant in
    subst (λ (g : CodeRun). IsUnfitAt g c.args.entries.now c.loop-index.index) i.code_run
    (unfit (code_run_of x) c.args.entries.now c.loop-index.index _ (system_of x)
    (at_or c.args.entries.now c.loop-index.index _ c.loop-index-test.true)
    (subst (λ (es : _). IsSystem plain (code_run_of x) es (system_of x)) i.entries (is_system x i.stands.follows.come))
    (of_none c.in-Ok.told _ _ c.in-Ok.ensures (none_of c.in-Ok.told c.in_default-told.not-Some)))

pub loop-index-preserved : goal.loop-index-preserved
loop-index-preserved c =
    let x = c.loop-index.self.kernel in
    let i = c.loop-index.invariant in
    let y = c.follow_told.new.self.kernel in
    let r = of_some c.in-Ok.told _ _ c.in-Some.told c.in-Ok.ensures c.in-Some.is in
    record {
      stands = r.0;
      code_run = r.1.made.code_run ∙ i.code_run;
      entries = entries_more x y c.in-Some.told c.args.entries.now c.loop-index.index _ r.1 i.entries
          c.loop-index-test.true;
      told = subst (λ (ws : List Told). DescribesEntries (code_run_of c.args.self.now.kernel) y.journal.entries ws
          (system_of y))
          (sym c.in-Ok-keep.ensures)
          (told_more (code_run_of c.args.self.now.kernel) x y _ c.in-Some.told c.loop-index.out i.code_run r.1 i.told);
    }
