use Rattle.std.specs.Prelude.{◌≡◌, Some, None}
use Rattle.std.proofs.Common.{sym, ◌∙◌}
use Rattle.sy_reading.specs.Exprs.{library_by}
use Rattle.sy_reading.specs.Tables.{function_of, object_of, tag_of}
use Rattle.sy_grammar.proofs.OptionLemmas.{not_some}
use Rattle.sy_exprs.proofs.primary.Primaries.library_by.Goals as goal

pub returns-in-Some-object_of : goal.returns-in-Some-object_of
unfolding library_by
returns-in-Some-object_of g c =
    let no_tag : tag_of c.args.text.now ≡ None = sym c.tag_of.ensures ∙ not_some c.tag_of.result c.in_default.not-Some in
    let an_object : object_of c.args.text.now ≡ Some c.in-Some-object_of.function = sym c.object_of.ensures ∙ c.in-Some-object_of.is in
    rw (no_tag, an_object) c.function_object.ensures

pub returns-in-Some-function_of : goal.returns-in-Some-function_of
unfolding library_by
returns-in-Some-function_of g c =
    let no_tag : tag_of c.args.text.now ≡ None = sym c.tag_of.ensures ∙ not_some c.tag_of.result c.in_default.not-Some in
    let no_object : object_of c.args.text.now ≡ None = sym c.object_of.ensures ∙ not_some c.object_of.result c.in_default-object_of.not-Some in
    let a_function : function_of c.args.text.now ≡ Some c.in-Some-function_of.function = sym c.function_of.ensures ∙ c.in-Some-function_of.is in
    rw (no_tag, no_object, a_function) c.library_call.ensures

pub returns-in-None : goal.returns-in-None
unfolding library_by
returns-in-None g c =
    let no_tag : tag_of c.args.text.now ≡ None = sym c.tag_of.ensures ∙ not_some c.tag_of.result c.in_default.not-Some in
    let no_object : object_of c.args.text.now ≡ None = sym c.object_of.ensures ∙ not_some c.object_of.result c.in_default-object_of.not-Some in
    let no_function : function_of c.args.text.now ≡ None = sym c.function_of.ensures ∙ c.in-None.is in
    rw (no_tag, no_object, no_function) c.other_name.ensures
