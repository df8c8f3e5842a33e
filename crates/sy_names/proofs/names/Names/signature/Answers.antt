use Rattle.std.proofs.Common.{◌≡◌, ℕ, List, Option, Some, None, Bor, slice_get, refl, sym, ap, ◌∙◌, arith}
use Rattle.std.specs.Option.{option_copied}
use Rattle.std.specs.Slice.{IsItemAt}
use Rattle.std.proofs.lemmas.Grind.{common_steps}
use Rattle.std.proofs.lemmas.Option.{slice_get_past, slice_get_read}
use Rattle.std.proofs.lemmas.Bool.Decides.{nat_tests}
use Rattle.sy_rules.specs.declared.names.Signature.{Signature}
use Rattle.sy_rules.specs.Calls.{signature_at}
use Rattle.sy_names.proofs.IndexLemmas.{signature_at-slice_get}
use Rattle.sy_names.proofs.names.Names.signature.Goals as goal

read : (fs : List Signature) (i : ℕ) (r : Option (Bor Signature)) → IsItemAt fs i r → option_copied r ≡ slice_get fs i
read fs i None h = sym (slice_get_past fs i (grind (arith, nat_tests)))
read fs i (Some f) h = sym (slice_get_read fs _ i f.now refl (grind (arith, nat_tests)) (grind (arith, common_steps)))

pub returns : goal.returns
returns c =
    read c.deref.result.now c.args.index c.get.result c.get.ensures.lookup
    ∙ signature_at-slice_get c.deref.result.now c.args.index
    ∙ ap (λ fs. signature_at fs c.args.index) (c.deref.ensures.value ∙ ap (λ n. n.functions) c.self.view_is)
