use Rattle.std.proofs.Common.{◌≡◌, length, take, ap, sym, ◌∙◌, subst}
use Rattle.sp_code.specs.declared.code.Parts.{Parts}
use Rattle.sp_verify_areas.specs.Owners.{AreOwners}
use Rattle.sp_verify_areas.proofs.OwnerClosure.{are_owners}
use Rattle.sp_verify_areas.proofs.owners.owners.Goals as goal

pub returns : goal.returns
returns c =
    let code = c.args.code.now in
    let os = c.search.new.owners in
    let m : c.len-count.result ≡ length code.instrs = c.len-count.ensures
    ∙ ap (λ (z : Parts). length z.instrs) c.parts-parts.ensures.same in
    subst (AreOwners code) (sym (c.truncate.ensures
    ∙ ap (λ n. take n os) m)) (are_owners code os c.in-Ok-search.ensures.0 c.in-Ok-search.ensures.1)
