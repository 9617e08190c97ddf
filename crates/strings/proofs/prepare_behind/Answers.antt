use Rattle.strings.proofs.Preparing.{prepare_long, prepare_start, prepare_end, prepare_place, prepare_most, prepare_space, prepare_octets}
use Rattle.strings.proofs.Preparing.{prepare_falls, prepare_more}
use borrow.Author.Rules.{rules}
use Rattle.strings.proofs.prepare_behind.Goals as goal

pub loop-found-init : goal.loop-found-init
loop-found-init c = search prepare_start

pub returns : goal.returns
returns c = record { written = search prepare_end; place = search prepare_place; most = search prepare_most }

pub put_space-start-requires : goal.put_space-start-requires
put_space-start-requires c = search prepare_space

pub put_octets-n-requires : goal.put_octets-n-requires
put_octets-n-requires c = search prepare_octets

pub loop-found-smaller : goal.loop-found-smaller
loop-found-smaller c = search prepare_falls

pub loop-found-preserved : goal.loop-found-preserved
loop-found-preserved c = search prepare_more
