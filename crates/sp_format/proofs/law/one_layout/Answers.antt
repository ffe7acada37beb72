use Rattle.sp_format.proofs.OneLayout.{one_layout, one_refusal, layout_or_refusal}
use Rattle.sp_format.proofs.law.one_layout.Goals as goal

pub returns-clause-layout : goal.returns-clause-layout
returns-clause-layout c = one_layout

pub returns-clause-refusal : goal.returns-clause-refusal
returns-clause-refusal c = one_refusal

pub returns-clause-not_both : goal.returns-clause-not_both
returns-clause-not_both c = layout_or_refusal
