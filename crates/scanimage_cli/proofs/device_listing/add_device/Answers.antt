use Rattle.std.specs.Prelude.{codes}
use Rattle.scanimage_cli.proofs.OutputLines.{ten}
use Rattle.scanimage_cli.proofs.device_listing.add_device.Goals as goal

pub returns : goal.returns
returns c =
    rw (
      c.in_ok-extend_from_slice-10.ensures.items,
      c.in_ok-extend_from_slice-9.ensures.items,
      c.in_ok-extend_from_slice-8.ensures.items,
      c.in_ok-extend_from_slice-7.ensures.items,
      c.in_ok-extend_from_slice-6.ensures.items,
      c.in_ok-extend_from_slice-5.ensures.items,
      c.in_ok-extend_from_slice-4.ensures.items,
      c.in_ok-extend_from_slice-3.ensures.items,
      c.in_ok-extend_from_slice-2.ensures.items,
      c.in_ok-extend_from_slice.ensures.items,
      c.as_bytes.ensures.bytes,
      c.as_bytes-2.ensures.bytes,
      c.as_bytes-3.ensures.bytes,
      c.as_bytes-4.ensures.bytes,
    )
    (ten c.args.lines.now.items (codes "device `") c.args.prefix.now c.args.info.now.name (codes "' is a ") c.args.info.now.vendor (codes " ") c.args.info.now.model (codes " ") c.args.info.now.class (codes "\n"))
