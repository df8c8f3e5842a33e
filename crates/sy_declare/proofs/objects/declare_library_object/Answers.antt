use Rattle.std.proofs.Common.{◌≡◌, refl, [], ap, sym, ◌∙◌}
use Rattle.sy_constructs.specs.Uses.{foreign_found}
use Rattle.sy_declare.proofs.objects.declare_library_object.Goals as goal
use Rattle.sy_declare.specs.Declared.{made}
use Rattle.sy_findings.specs.Told.{told}
use Rattle.sy_looks.proofs.LookLemmas.{looked_as, with_known}
use Rattle.sy_note.specs.declared.Spot.{Spot}
use Rattle.sy_rules.specs.declared.library.Row.{Row}
use Rattle.sy_rules.specs.Foreign.{is_made_in}
use Rattle.sy_rules.specs.Objects.{arguments_of, object_row}
use Rattle.sy_rules.specs.StmtRules.{object_faults}
use Rattle.sy_rules.specs.Walk.{declared_object, foreign_object}
use Rattle.sy_tree.specs.declared.parts.Brackets.TheVariants as brackets

pub returns : goal.returns
returns c = λ s make.
    let w = c.args.w.now in
    let t = c.args.t.now in
    let x = c.args.x.now in
    let seen = c.args.seen.now in
    let u = c.foreign_object-foreign.result in
    let gives = (object_row t (arguments_of seen)).gives in
    let ds = object_faults w.names t x seen in
    let allowed : is_made_in w.names.setting.within t ≡ c.is_made_in-allowed.result = sym (c.is_made_in-allowed.ensures ∙ ap (λ z. is_made_in z.within t) c.setting.ensures) in
    let foreign : foreign_object t ≡ foreign_found u = c.foreign_object-foreign.ensures w.names brackets.Parentheses s s [] in
    let what : gives ≡ c.initialized_row-what.result.gives = sym (ap (λ (r : Row). r.gives) c.initialized_row-what.ensures) in
    with_known (λ n. declared_object (is_made_in n.setting.within t) (object_faults n t x seen) (foreign_object t) gives s x make) (λ n. n) w c.declare_object.new.w (made s make c.declare_object.result) w.names refl
    (looked_as (declared_object (is_made_in w.names.setting.within t) ds (foreign_object t) gives s x make) (declared_object c.is_made_in-allowed.result ds (foreign_found u) c.initialized_row-what.result.gives s x make) w c.declare_object.new.w (made s make c.declare_object.result)
    (ap (λ b. declared_object b ds (foreign_object t) gives s x make) allowed
    ∙ ap (λ f. declared_object c.is_made_in-allowed.result ds f gives s x make) foreign
    ∙ ap (λ y. declared_object c.is_made_in-allowed.result ds (foreign_found u) y s x make) what)
    (c.declare_object.ensures ds s make (c.object.ensures ∙ ap (λ f. told f ds) c.new-own.ensures)))
