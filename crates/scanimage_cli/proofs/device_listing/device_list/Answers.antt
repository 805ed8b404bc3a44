use Rattle.std.proofs.Common.{rules, ◌≡◌, ◌∷◌, ◌+◌, ◌≤◌, drop, length}
use Rattle.std.proofs.Math.ListN.{drop_of_length-le}
use Rattle.local_job.proofs.Puts.{cut_at}
use Rattle.scanimage_cli.proofs.OutputLines.{one_more, no_more}
use Rattle.scanimage_cli.proofs.device_listing.device_list.Goals as goal

pub loop-info-preserved : goal.loop-info-preserved
loop-info-preserved c =
    let cut : drop c.loop-info.info-index c.args.devices.now ≡ c.info-item.result ∷ drop (c.loop-info.info-index + 1) c.args.devices.now = search (rules, cut_at c.args.devices.now c.loop-info.info-index c.info-item.result) in
    one_more c.args.prefix.now c.loop-info.lines.items _ _ _ _ _ cut c.in_ok-add_device.ensures c.loop-info.invariant

pub returns : goal.returns
returns c =
    let all : length c.args.devices.now ≤ c.loop-info.info-index = search rules in
    no_more c.args.prefix.now c.loop-info.lines.items _ _ (drop_of_length-le c.args.devices.now all) c.loop-info.invariant
