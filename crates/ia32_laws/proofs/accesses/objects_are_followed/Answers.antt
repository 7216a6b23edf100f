use Rattle.ia32_laws.proofs.Elements.{put-follows}
use Rattle.ia32_laws.proofs.Loading.{get-follows}
use Rattle.ia32_laws.proofs.accesses.objects_are_followed.Goals as goal

pub returns-clause-get : goal.returns-clause-get
returns-clause-get c = get-follows

pub returns-clause-put : goal.returns-clause-put
returns-clause-put c = put-follows
