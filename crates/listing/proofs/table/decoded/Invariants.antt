use Rattle.std.proofs.Common.{◌≡◌, ◌++◌, ◌<◌, map, filter, drop, IfSome}
use Rattle.std.specs.Option.{option_to_list}
use Rattle.listing.specs.Lines.{bytes_of, digit_value, is_digit}
use Rattle.listing.proofs.table.decoded.Given as goal

-- what was read and what the rest of the line spells after the half that waits are the bytes of the line
abbrev pub invariant-loop-b : goal.invariant-loop-b
invariant-loop-b l = record {
  within : IfSome l.high (λ h. h < 16);
  rest : l.bytes.items ++ bytes_of (option_to_list l.high ++ map digit_value (filter is_digit (drop l.b-index l.b-items))) ≡ bytes_of (map digit_value (filter is_digit l.b-items));
}
