use Rattle.qh_routes.proofs.Metas.{put_taken}
use Rattle.qh_routes.proofs.laws.ids_taken_back.Goals as goal

pub returns : goal.returns
returns c entries sequence id h = put_taken sequence id entries h
