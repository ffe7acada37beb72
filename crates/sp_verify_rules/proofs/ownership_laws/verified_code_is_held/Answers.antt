use Rattle.sp_verify_rules.proofs.StoreOwners.{verified_held}
use Rattle.sp_verify_rules.proofs.ownership_laws.verified_code_is_held.Goals as goal

pub returns : goal.returns
returns k = λ c small verified. verified_held c small verified
