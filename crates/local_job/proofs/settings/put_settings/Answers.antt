use Rattle.std.proofs.Common.{◌≡◌, rules, arith, drop, ◌∷◌, ◌+◌}
use Rattle.std.proofs.Math.ListN.{drop_of_length-le}
use Rattle.device_api.specs.State.{DeviceState}
use Rattle.local_job.specs.Inside.{put_all}
use Rattle.local_job.proofs.Puts.{put_more, put_stops, put_ends, setups, cut_at}
use Rattle.local_job.proofs.settings.put_settings.Goals as goal

pub loop-setting-preserved : goal.loop-setting-preserved
loop-setting-preserved g c =
    let first : DeviceState = (goal.Device-dyn g c.args.device.now).state c.args.device.now.1 in
    let now : DeviceState = (goal.Device-dyn g c.loop-setting.device.now).state c.loop-setting.device.now.1 in
    let next : DeviceState = (goal.Device-dyn g c.loop-setting.device.now).state c.put_setting.new.device in
    let cut : drop c.loop-setting.setting-index c.args.settings.now ≡ c.setting-item.result ∷ drop (c.loop-setting.setting-index + 1) c.args.settings.now = search (rules, cut_at c.args.settings.now c.loop-setting.setting-index c.setting-item.result) in
    record {
      rest = setups first now next c.loop-setting.invariant.rest c.in_ok-put_setting.ensures.rest;
      reports = rw c.in_ok-push.ensures.items (put_more c.loop-setting.reports.items now.setup next.setup (drop c.loop-setting.setting-index c.args.settings.now) (drop (c.loop-setting.setting-index + 1) c.args.settings.now) c.setting-item.result c.in_ok-put_setting.field-0 (put_all first.setup c.args.settings.now) cut c.in_ok-put_setting.ensures.put c.loop-setting.invariant.reports);
    }

pub returns-in_err-put_setting-clause-stop : goal.returns-in_err-put_setting-clause-stop
returns-in_err-put_setting-clause-stop g c =
    let first : DeviceState = (goal.Device-dyn g c.args.device.now).state c.args.device.now.1 in
    let now : DeviceState = (goal.Device-dyn g c.loop-setting.device.now).state c.loop-setting.device.now.1 in
    let cut : drop c.loop-setting.setting-index c.args.settings.now ≡ c.setting-item.result ∷ drop (c.loop-setting.setting-index + 1) c.args.settings.now = search (rules, cut_at c.args.settings.now c.loop-setting.setting-index c.setting-item.result) in
    let h = put_stops c.loop-setting.reports.items now.setup (drop c.loop-setting.setting-index c.args.settings.now) _ c.setting-item.result _ (put_all first.setup c.args.settings.now) cut c.in_err-put_setting.ensures.stop c.loop-setting.invariant.reports in
    search (rules, h)

pub returns-clause-put : goal.returns-clause-put
returns-clause-put g c =
    let now : DeviceState = (goal.Device-dyn g c.loop-setting.device.now).state c.loop-setting.device.now.1 in
    rw c.from_vec.ensures (put_ends c.loop-setting.reports.items now.setup (drop c.loop-setting.setting-index c.args.settings.now) _ (drop_of_length-le c.args.settings.now (omega arith)) c.loop-setting.invariant.reports)
