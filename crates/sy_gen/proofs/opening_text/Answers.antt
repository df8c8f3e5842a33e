use Rattle.std.proofs.Common.{refl}
use Rattle.sy_gen.specs.Text.{includes, add_function, mul_function, flip_function, total_function, main_opening, opening}
use Rattle.sy_gen.proofs.opening_text.Goals as goal

pub returns-clause-text : goal.returns-clause-text
unfolding opening includes add_function mul_function flip_function total_function main_opening
returns-clause-text c = refl
