use Rattle.std.proofs.Common.{rules}
use Rattle.sp_kernel.proofs.kernel.Kernel.seen.Goals as goal

pub returns-in-Some-Here-default-Receiving : goal.returns-in-Some-Here-default-Receiving
returns-in-Some-Here-default-Receiving c =
    (c.in-Some-Here-default-Receiving.field-0-1-1, c.in-Some-Here-default-Receiving.proc.target, search rules)
