-- Computed examples on document 01's licence record.
use Rattle.std.specs.Prelude.{Some, None}
use Rattle.std.specs.Prelude.{◌≡◌, refl, [], ◌∷◌, map}
use Rattle.octets.specs.Octets.{hex}
use Rattle.value.specs.Paper.{licence_record}
use Rattle.reader.specs.There.{header_there, contents_there}
use Rattle.reader.specs.Inner.Reads.{size_there, next_there, value_there}
use Rattle.reader.specs.Computing.{reader_computes}

-- the record, its event, the list of its parts, the second part's copies; inside the event's contents, where 65 31 would be a tag and a length of
-- more octets than there are; at the record's last octet; past its end
headers : map (header_there licence_record) (0 ∷ 2 ∷ 6 ∷ 20 ∷ 4 ∷ 22 ∷ 23 ∷ [])
    ≡ Some (48, 2, 21) ∷ Some (12, 4, 2) ∷ Some (48, 8, 15) ∷ Some (128, 22, 1) ∷ None ∷ None ∷ None ∷ []
unfolding reader_computes
headers = refl

sizes : map (size_there licence_record) (0 ∷ 2 ∷ 6 ∷ 8 ∷ 20 ∷ 4 ∷ 23 ∷ []) ≡ 23 ∷ 4 ∷ 17 ∷ 6 ∷ 3 ∷ 0 ∷ 0 ∷ []
unfolding reader_computes
sizes = refl

-- from the record's first member to the next, from part to part, from the last value to the end; no value, so the place itself
nexts : map (next_there licence_record) (2 ∷ 8 ∷ 14 ∷ 20 ∷ 4 ∷ 23 ∷ []) ≡ 6 ∷ 14 ∷ 23 ∷ 23 ∷ 4 ∷ 23 ∷ []
unfolding reader_computes
nexts = refl

-- P11's stored value, 0,20,3, is 80 01 03
values : map (value_there licence_record) (0 ∷ 2 ∷ 14 ∷ 20 ∷ 4 ∷ 23 ∷ [])
    ≡ licence_record ∷ hex "0C026531" ∷ hex "300713025661800103" ∷ hex "800103" ∷ [] ∷ [] ∷ []
unfolding reader_computes
values = refl

contents : map (contents_there licence_record) (2 ∷ 14 ∷ 20 ∷ 4 ∷ 23 ∷ []) ≡ hex "6531" ∷ hex "13025661800103" ∷ hex "03" ∷ [] ∷ [] ∷ []
unfolding reader_computes
contents = refl
