use Rattle.record_numbers.proofs.numbers_fit.Goals as goal

pub returns : goal.returns
returns c bytes at rule source start end database known rec all found is =
    c.typed_fits.ensures source start end database known rec (c.read_is_of_bytes.ensures bytes at rule source all found) is
