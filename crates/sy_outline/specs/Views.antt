-- Which body a borrowed view stands for.
use Rattle.std.specs.Prelude.{List, map}
use Rattle.sy_meaning.specs.Bodies.{Body as TheBody}
use Rattle.sy_meaning.specs.Lambdas.{variable_of}
use Rattle.sy_outline.specs.declared.views.Body.{Body}
use Rattle.sy_outline.specs.declared.views.Captures.{Captures}
use Rattle.sy_outline.specs.declared.views.Captures.TheVariants.{Captured, Parameters}
use Rattle.sy_typed.specs.declared.tree.Variable.{Variable}

abbrev pub captures_of : Captures → List Variable
captures_of (Parameters xs) = xs.now
captures_of (Captured cs) = map variable_of cs.now

abbrev pub body_of : Body → TheBody
body_of b = record { captures = captures_of b.captures; parameters = b.parameters.now; returned = b.returned; block = b.block.now }
