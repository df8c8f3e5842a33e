use Rattle.sy_links.proofs.VersionLemmas.{version_is, sound-fresh}
use Rattle.sy_links.proofs.PutBackLemmas.{put_back_is}
use Rattle.sy_links.proofs.laws.versions_are_outcomes.Goals as goal

pub returns-clause-version : goal.returns-clause-version
returns-clause-version c = version_is

pub returns-clause-sound : goal.returns-clause-sound
returns-clause-sound c = sound-fresh

pub returns-clause-put_back : goal.returns-clause-put_back
returns-clause-put_back c = put_back_is
