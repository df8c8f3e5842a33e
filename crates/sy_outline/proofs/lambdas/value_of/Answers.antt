use Rattle.std.proofs.Common.{ap, sym, ◌∙◌}
use Rattle.sy_outline.specs.Parts.{of_declarator}
use Rattle.sy_outline.proofs.FormLemmas.{declarator_Bracketed, declarator_Equal, declarator_Uninitialized}
use Rattle.sy_outline.proofs.lambdas.value_of.Goals as goal

pub returns-in-Uninitialized : goal.returns-in-Uninitialized
returns-in-Uninitialized c = sym (ap of_declarator c.in-Uninitialized.is ∙ declarator_Uninitialized _)

pub returns-in-Equal : goal.returns-in-Equal
returns-in-Equal c = sym (ap of_declarator c.in-Equal.is ∙ declarator_Equal _ _)

pub returns-in-Bracketed : goal.returns-in-Bracketed
returns-in-Bracketed c = sym (ap of_declarator c.in-Bracketed.is ∙ declarator_Bracketed _ _ _)
