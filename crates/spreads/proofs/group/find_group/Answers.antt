use Rattle.std.proofs.Common.{sym, ap, ◌∙◌, arith}
use Rattle.spreads.specs.Strikes.{strikes_of}
use Rattle.spreads.proofs.MemberLaws.{members_are}
use Rattle.spreads.proofs.group.find_group.Goals as goal

pub returns : goal.returns
returns c =
    let m = c.find_members-legs.ensures in
    let s = c.list_strikes-strikes.ensures in
    record {
      checked = c.args.links.now.placement.checked;
      members = m.1;
      prices = s.prices_after ∙ ap strikes_of (members_are _ _ m.1);
      few = (m.0, omega arith);
      passed = sym c.group_fault.ensures ∙ c.in_ok-group_fault.was;
    }
