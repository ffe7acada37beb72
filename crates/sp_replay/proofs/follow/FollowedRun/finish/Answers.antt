use Rattle.std.proofs.Common.{◌∙◌, sym, subst}
use Rattle.sp_code.specs.OutputHolder.{IsOutputOf}
use Rattle.sp_kernel.specs.Kernels.{system_of}
use Rattle.sp_replay.specs.HeldProcesses.{held_at}
use Rattle.sp_replay.proofs.HistorySteps.{is_named, is_system}
use Rattle.sp_replay.proofs.Ending.{ends_so}
use Rattle.sp_replay.proofs.follow.FollowedRun.finish.Goals as goal

pub end-requires : goal.end-requires
end-requires c = is_named c.args.self.now.kernel c.requires.follows.come

pub returns : goal.returns
returns c =
    let f = c.args.self.now in
    let end = ends_so f.kernel c.requires.follows.come (held_at f.held) c.requires.follows.held c.requires.none_ready
    c.in-Ok.value c.in-Ok.ensures in
    let written = subst (IsOutputOf (system_of f.kernel) c.output.ensures.0)
    (sym (c.of.ensures ∙ c.in-Ok-from_slice.ensures.items)) c.output.ensures.1 in
    record {
      leads = record {
        system = system_of f.kernel;
        along = is_system f.kernel c.requires.follows.come;
        end = end;
        output = (c.output.ensures.0, written);
      };
      at = record { end = end; output = (c.output.ensures.0, written) };
    }
