use Rattle.dkv_http.proofs.responses.+put_hex.Given as goal

abbrev pub decreases-put_hex : goal.decreases-put_hex
decreases-put_hex l = l.more
