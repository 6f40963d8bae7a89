mod SplitLemmas
