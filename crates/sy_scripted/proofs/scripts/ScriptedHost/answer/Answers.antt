use Rattle.std.proofs.Common.{refl, ap, ◌∙◌, length}
use Rattle.std.specs.Prelude.{◌||◌, not}
use Rattle.std.specs.Arc.{arc_value}
use Rattle.sy_scripted.specs.Scripts.{script_of, suits_at, place_after}
use Rattle.sy_scripted.proofs.Playing.{differs_after, at_after}
use Rattle.sy_scripted.proofs.scripts.ScriptedHost.answer.Goals as goal

pub returns-clause-longer : goal.returns-clause-longer
returns-clause-longer c = λ n body captures answers stands.
    let scripts = (arc_value c.args.self.now.scripts).items in
    let a = c.args.a in (
      stands.0,
      stands.1,
      c.place_after-self.ensures ∙ ap (λ b. place_after c.args.self.now.at (length (script_of scripts b))) stands.1 ∙ at_after _ _ answers a stands.2,
      c.differs-self.ensures ∙ ap (λ b. c.args.self.now.differs || not (suits_at (script_of scripts b) c.args.self.now.at a)) stands.1
          ∙ differs_after scripts body c.args.self.now.at c.args.self.now.differs _ answers a stands.2 stands.3 refl,
    )
