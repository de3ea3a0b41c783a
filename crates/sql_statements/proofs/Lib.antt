mod AloneLemmas
