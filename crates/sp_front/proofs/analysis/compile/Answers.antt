use Rattle.std.proofs.Common.{Ok, inr}
use Rattle.sp_tree.specs.CheckedOf.{program_of}
use Rattle.sp_front.specs.declared.analysis.Accepted.{Accepted}
use Rattle.sp_front.specs.Compiles.{Compiles}
use Rattle.sp_front.proofs.PhaseAnswers.{disjoint_of, free_of, keeps_all, programs_of}
use Rattle.sp_front.proofs.analysis.compile.Goals as goal

pub returns-in-Ok : goal.returns-in-Ok
returns-in-Ok c =
    let h = c.in_ok-found.ensures in
    let calm = c.in-Ok.ensures.verdict h.1 (c.numbered_trees.ensures.parents c.args.text.now
    (program_of c.in_ok-found.found.0) h.0) in
    let a : Accepted = record { checked = c.in_ok-found.found.0; sets = c.in_ok-found.found.1 } in
    let all : Compiles c.args.text.now (Ok a) = ((h.0, calm), h.1) in
    record {
      compiles = all;
      keeps = keeps_all c.one_answer.ensures.tree c.one_answer.ensures.not_both c.args.text.now (Ok a) all;
      program = programs_of c.args.text.now (Ok a) all;
      free = free_of c.accepted_trees_are_fine.ensures.free c.args.text.now (Ok a) all;
      disjoint = disjoint_of c.accepted_trees_are_fine.ensures.free c.rule_keepers_are_disjoint.ensures c.args.text.now
          (Ok a) all;
    }

pub returns-in-Err-clause-compiles : goal.returns-in-Err-clause-compiles
returns-in-Err-clause-compiles c =
    let h = c.in_ok-found.ensures in
    inr (
      program_of c.in_ok-found.found.0,
      h.0,
      c.in-Err.ensures.verdict h.1 (c.numbered_trees.ensures.parents c.args.text.now
          (program_of c.in_ok-found.found.0) h.0),
    )
